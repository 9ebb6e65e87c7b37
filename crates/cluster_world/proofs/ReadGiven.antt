-- What it does to give a call that reads up.
use Rattle.std.proofs.Common.{◌≡◌, inl, inr, ℕ, ◌≤◌, Bool, true, false, nat_le, List, [], ◌∷◌, map, Option, Some, None, is_some, Result, Ok, Err, refl, sym, ap, ◌∙◌, subst}
use Rattle.std.specs.List.{list_all}
use Rattle.std.specs.Option.{option_map}
use Rattle.mail_model.specs.Record.{Record}
use Rattle.object_model.specs.Letters.{Number, Letter}
use Rattle.cluster_model.specs.Cluster as plain
use Rattle.cluster_model.specs.Deeds.{slot_up}
use Rattle.cluster_model.specs.Rules.{ticket_at}
use Rattle.cluster_model.specs.Steps as mail_steps
use Rattle.cluster_model.specs.Steps.{is_node, letters_end}
use Rattle.whole_model.specs.Whole as whole
use Rattle.whole_model.specs.Whole.{mail_slot}
use Rattle.whole_world.specs.Steps as whole_steps
use Rattle.login_model.specs.Readings.{ReadTicket}
use Rattle.login_model.specs.Rules.{read_at}
use Rattle.joint_model.specs.Joint as joint
use Rattle.joint_model.specs.Joint.{read_node, whole_slot}
use Rattle.joint_world.specs.World as joint_world
use Rattle.joint_world.specs.World.{mail_world_of}
use Rattle.joint_world.specs.Rules.{Reaction, given_up}
use Rattle.joint_world.specs.Putting.{Puts}
use Rattle.joint_world.specs.Steps.{is_read_ticket, step_fault}
use Rattle.joint_world.specs.Makes as joint_makes
use Rattle.node_store.specs.Disks.{View}
use Rattle.node_reads.specs.Readings.{listed}
use Rattle.node_core.specs.Nodes.{node_seen, IsNodeOf, NodeKeeps}
use Rattle.whole_node.specs.Nodes.{joint_seen, WholeWorks}
use Rattle.whole_node.specs.Reading.{ReadDid}
use Rattle.whole_node.specs.ReadTickets.{reading_standing, GivesUpUnder, GivesUpRead}
use Rattle.whole_node.specs.declared.node.WholeNode.{WholeNode}
use Rattle.world_book.specs.declared.book.Book.{Book}
use Rattle.cluster_world.specs.AskingReads.{IsReader, StandsAmongReads, GivesReading, IsReadGivenOn}
use Rattle.cluster_world.specs.Books.{booked_by}
use Rattle.cluster_world.specs.Changes.{ChangesNode}
use Rattle.cluster_world.specs.Flights.{InFlight}
use Rattle.cluster_world.specs.Lives.{of_node, CanWorkOn}
use Rattle.cluster_world.specs.Maps.{StandsForAll}
use Rattle.cluster_world.specs.Reading.{AllStand, StaysBeside, PutsQueue}
use Rattle.cluster_world.specs.Seen.{whole_step}
use Rattle.cluster_world.specs.Sure.{is_reading_in}
use Rattle.cluster_world.specs.Telling.{standing_on, reading_on}
use Rattle.cluster_world.specs.Turns.{life_refusal, node_refusal}
use Rattle.cluster_world.specs.Worlds.{WorldState, life_among, tells_in, state_with}
use Rattle.cluster_world.specs.Steps.{StepDid, LeadsTo, AreSettled}
use Rattle.cluster_world.specs.declared.life.Life.{Life}
use Rattle.cluster_world.specs.declared.life.Life.TheVariants.{Up, Down, Lost}
use Rattle.cluster_world.specs.declared.nodes.Nodes.{Nodes}
use Rattle.cluster_world.specs.declared.step.Step.TheVariants as step
use Rattle.cluster_world.specs.declared.step.Said.TheVariants.{Done}
use Rattle.cluster_world.specs.declared.fault.StepFault.TheVariants as fault
use Rattle.cluster_world.proofs.Asked.{ready_of, disk_of}
use Rattle.cluster_world.proofs.Given.{give_up_whole}
use Rattle.cluster_world.proofs.Kept.{kept_at}
use Rattle.cluster_world.proofs.Longer.{same_book}
use Rattle.cluster_world.proofs.Queues.{beside_further}
use Rattle.cluster_world.proofs.ReadAsked.{all_of}
use Rattle.cluster_world.proofs.ReadFinds.{is_of_reads, reads_go, reads_refused}
use Rattle.cluster_world.proofs.ReadSlots.{HasUp, up_for, mail_there}
use Rattle.cluster_world.proofs.ReadSteps.{beside_goes, beside_settled, read_did, read_stops, puts_same, stands_all}
use Rattle.cluster_world.proofs.ReadTurns.{Turns, turned_beside, turned_stand, turned_seen}
use Rattle.cluster_world.proofs.Refusing.{fit_of, give_up_goes, give_up_is_worn}
use Rattle.cluster_world.proofs.Same.{led_refused, same_told, same_quiet, same_unchanged}
use Rattle.cluster_world.proofs.Still.{some_same}

-- A node that is up, at which a ticket of calls that read stands and none of messages.
module _ {D : Type 0} (on : View D) (ticket : Number) (nodes : Nodes D) (fit : node_refusal nodes.plan (life_among nodes) (step.GiveUp ticket) ≡ None)
    (reads : StandsAmongReads ticket (of_node nodes.lives.items ticket.node)) (ready : CanWorkOn on.seen nodes.plan nodes.lives.items nodes.disks.items) where
  named : list_all (is_node nodes.plan) (ticket.node ∷ []) ≡ true
  named = (fit_of (list_all (is_node nodes.plan) (ticket.node ∷ [])) (life_refusal (step.GiveUp ticket) (life_among nodes ticket.node)) fit).0

  pub giver_of : (l : Life) → of_node nodes.lives.items ticket.node ≡ Some l → IsReader ticket.node l
  giver_of l at =
      let up = give_up_whole on ticket nodes fit ready l at in
      let (disk, held) = disk_of nodes.disks.items nodes.lives.items ticket.node l (nodes.all ∙ sym nodes.disk_each) at in
      let (of, works) = ready_of on.seen nodes.plan nodes.lives.items nodes.disks.items ready ticket.node up.node disk (at ∙ ap Some up.up) held in
      record { node = up.node; up = up.up; own_is = of.own_is; reads = record { whole = works.mail.whole; maps = works.maps; reads = works.reads } }

  module _ (node : WholeNode) (disk : D) (here : of_node nodes.lives.items ticket.node ≡ Some (Up node)) (held : of_node nodes.disks.items ticket.node ≡ Some disk) where
    of : IsNodeOf nodes.plan ticket.node node.mail × WholeWorks (on.seen disk) node
    of = ready_of on.seen nodes.plan nodes.lives.items nodes.disks.items ready ticket.node node disk here held

    no_mail : is_some (ticket_at ticket.node (node_seen node.mail) (Some ticket)) ≡ false
    no_mail = ap (λ own. is_some (ticket_at own (node_seen node.mail) (Some ticket))) (sym of.0.own_is) ∙ ap (λ (o : Option Life). is_some (standing_on o ticket)) (sym here) ∙ reads.none

    some_read : is_some (read_at ticket.node (read_node true (joint_seen node)) (Some ticket)) ≡ true
    some_read = ap (λ (o : Option Life). is_some (reading_on o ticket)) (sym here) ∙ reads.some

    module _ (flying : InFlight) (seconds : ℕ) (book : Book) (v : joint_world.World) (st : StandsForAll on (state_with nodes flying seconds book) v) where
      pub up : HasUp on ticket.node node disk v.slots
      up = up_for on nodes.lives.items nodes.disks.items v.slots (all_of on (state_with nodes flying seconds book) v st) ticket.node node disk here held

      mail_up : plain.slot_at (mail_world_of v).slots ticket.node ≡ Some (slot_up (node_seen node.mail) up.records)
      mail_up = mail_there v.slots ticket.node (joint.slot_up (joint_seen node) up.records) up.here

      pub is_read : is_read_ticket v ticket ≡ true
      is_read = is_of_reads nodes.plan v ticket (joint_seen node) up.records up.here named no_mail some_read

      pub goes : nat_le letters_end flying.sent ≡ false → step_fault nodes.plan (whole_step (step.GiveUp ticket)) v ≡ None
      goes early = reads_go nodes.plan v ticket (joint_seen node) up.records up.here named (mail_steps.Step.GiveUp ticket) some_read
          (ap (option_map whole_steps.StepFault.Fault) (give_up_goes nodes.plan (mail_world_of v) ticket (slot_up (node_seen node.mail) up.records) (node_seen node.mail) named mail_up refl (ap (nat_le letters_end) (sym st.mail.sent) ∙ early)))

      pub worn : nat_le letters_end flying.sent ≡ true → step_fault nodes.plan (whole_step (step.GiveUp ticket)) v ≡ Some (whole_steps.StepFault.Fault mail_steps.StepFault.Worn)
      worn late = reads_refused nodes.plan v ticket (joint_seen node) up.records up.here named (mail_steps.Step.GiveUp ticket) (whole_steps.StepFault.Fault mail_steps.StepFault.Worn) some_read
          (ap (option_map whole_steps.StepFault.Fault) (give_up_is_worn nodes.plan (mail_world_of v) ticket (slot_up (node_seen node.mail) up.records) (node_seen node.mail) named mail_up refl (ap (nat_le letters_end) (sym st.mail.sent) ∙ late)))

  -- where it stands
  record Stood : Type 0 where
    node : WholeNode
    disk : D
    here : of_node nodes.lives.items ticket.node ≡ Some (Up node)
    held : of_node nodes.disks.items ticket.node ≡ Some disk

  stood : Stood
  stood = by (of_node nodes.lives.items ticket.node) refl reads.some
    where
      by : (o : Option Life) → of_node nodes.lives.items ticket.node ≡ o → is_some (reading_on o ticket) ≡ true → Stood
      by None e some = absurd (let never : false ≡ true = some in cc)
      by (Some Down) e some = absurd (let never : false ≡ true = some in cc)
      by (Some Lost) e some = absurd (let never : false ≡ true = some in cc)
      by (Some (Up node)) e some =
          let (disk, held) = disk_of nodes.disks.items nodes.lives.items ticket.node (Up node) (nodes.all ∙ sym nodes.disk_each) e in
          record { node = node; disk = disk; here = e; held = held }

  -- the letters are worn
  pub read_too_late : (flying : InFlight) (seconds : ℕ) (book : Book) → nat_le letters_end flying.sent ≡ true → StepDid on (Err fault.Worn) (step.GiveUp ticket) (state_with nodes flying seconds book) (state_with nodes flying seconds book)
  read_too_late flying seconds book late = record {
    plan = refl;
    handed = refl;
    refused = sym fit;
    kind = tt;
    falls = tt;
    lives = λ m. refl;
    told = same_told on (state_with nodes flying seconds book);
    quiet = same_quiet on (state_with nodes flying seconds book);
    clock = refl;
    passed = tt;
    books = same_book (booked_by book);
    kept = same_unchanged on (state_with nodes flying seconds book) (step.GiveUp ticket);
    leads = λ known ended story v st sound. led_refused on (state_with nodes flying seconds book) fault.Worn (whole_steps.StepFault.Fault mail_steps.StepFault.Worn) (step.GiveUp ticket) v st refl
        (worn stood.node stood.disk stood.here stood.held flying seconds book v st late);
    cause = λ w st. tt;
  }

  pub reading_there : (flying : InFlight) (seconds : ℕ) (book : Book) → is_reading_in (state_with nodes flying seconds book) ticket ≡ true
  reading_there flying seconds book = reads.some

  -- It is given up.
  module _ (letter : Option Letter) (mid : Nodes D) (ch : ChangesNode ticket.node (IsReadGivenOn ticket letter) nodes mid) where
    abbrev P : Life → D → Life → D → Type 0
    P = IsReadGivenOn ticket letter

    abbrev did : GivesReading ticket letter ch.life ch.life'
    did = ch.does.0

    at : of_node nodes.lives.items ticket.node ≡ Some (Up did.old)
    at = ch.was ∙ ap Some did.was

    here_of : IsNodeOf nodes.plan ticket.node did.old.mail × WholeWorks (on.seen ch.disk) did.old
    here_of = ready_of on.seen nodes.plan nodes.lives.items nodes.disks.items ready ticket.node did.old ch.disk at ch.held

    record Found : Type 0 where
      one : ReadTicket
      is : read_at ticket.node (read_node true (joint_seen did.old)) (Some ticket) ≡ Some one

    found : Found
    found = by (read_at ticket.node (read_node true (joint_seen did.old)) (Some ticket)) refl (some_read did.old ch.disk at ch.held)
      where
        by : (o : Option ReadTicket) → read_at ticket.node (read_node true (joint_seen did.old)) (Some ticket) ≡ o → is_some o ≡ true → Found
        by None e some = absurd (let never : false ≡ true = some in cc)
        by (Some one) e some = record { one = one; is = e }

    ruled : ReadDid (λ tells node disk r. r ≡ given_up tells did.old.mail.store.own node ticket found.one.reading) did.old did.new (listed letter)
    ruled = subst (λ (o : Option ReadTicket). GivesUpUnder ticket o letter did.old did.new) (ap (λ own. read_at own (read_node true (joint_seen did.old)) (Some ticket)) here_of.0.own_is ∙ found.is) did.gives

    turns : Turns did.old did.new
    turns = record { mail = ruled.mail; whole = ap (λ (r : Reaction). r.node.whole) (ruled.did true here_of.1.maps.records here_of.1.maps.keeps); works = did.works }

    pub given_beside : StaysBeside on.seen nodes mid
    given_beside = turned_beside on ticket.node P nodes mid ch did.old did.new did.was did.is ch.does.1 turns

    module _ (new : Nodes D) (flying flying' : InFlight) (seconds : ℕ) (book : Book) (puts : PutsQueue on (listed letter) mid flying new flying') where
      pub all_beside : StaysBeside on.seen nodes new
      all_beside = beside_further on nodes mid new given_beside puts.beside

      pub given_settled : (is_settled : D → Type 0) → AreSettled is_settled (state_with nodes flying seconds book) → AreSettled is_settled (state_with new flying' seconds book)
      given_settled = beside_settled on nodes new all_beside flying flying' seconds book book

      given_leads : nat_le letters_end flying.sent ≡ false → (v : joint_world.World) → StandsForAll on (state_with nodes flying seconds book) v → LeadsTo on (Ok Done) (step.GiveUp ticket) (state_with nodes flying seconds book) (state_with new flying' seconds book) v
      unfolding found
      given_leads early v st =
          let tells : Bool = tells_in on.seen (state_with nodes flying seconds book) in
          let u = up did.old ch.disk at ch.held flying seconds book v st in
          let turned : joint_world.World = record v { slots = joint.with_slot v.slots ticket.node (joint.slot_up (joint_seen did.new) u.records) } in
          let all = turned_stand on ticket.node P nodes mid ch did.old did.new did.was did.is ch.does.1 turns v.slots (all_of on (state_with nodes flying seconds book) v st) u in
          let (next, now, goes_) = puts.each tells turned (record { all = all; flies = st.mail.flying; sent = st.mail.sent }) in
          let (slots, s, b) = puts_same on tells (listed letter) turned next goes_ in
          let rule : record { node = joint_seen did.new; out = listed letter } ≡ given_up tells ticket.node (joint_seen did.old) ticket found.one.reading =
          ruled.did tells u.records u.stands.keeps ∙ ap (λ own. given_up tells own (joint_seen did.old) ticket found.one.reading) here_of.0.own_is in
          let seen : (mail_world_of next).slots ≡ (mail_world_of v).slots = ap (map mail_slot) slots ∙ turned_seen v.slots ticket.node (joint_seen did.old) (joint_seen did.new) u.records u.here turns.whole in
          record {
            next = next;
            stands = stands_all on new flying' seconds book next now (st.mail.seconds ∙ sym s) (st.mail.book ∙ sym b);
            made = (
              goes did.old ch.disk at ch.held flying seconds book v st early,
              joint_makes.DoesStep.GivesUp ticket refl (is_read did.old ch.disk at ch.held flying seconds book v st) (record {
                one = record { node = joint_seen did.old; disk = u.records; up = u.here; ticket = found.one; here = found.is };
                said_is = refl;
                does = subst (λ (r : Reaction). Puts tells r.out (record v { slots = joint.with_slot v.slots ticket.node (joint.slot_up r.node u.records) }) next) rule goes_;
              }),
            );
            stops = read_stops on nodes new (beside_goes on nodes new all_beside) flying flying' seconds book book (mail_world_of v).slots (mail_world_of next).slots st.mail.slots (λ n. ap (λ xs. kept_at (plain.slot_at xs n)) seen);
          }

      pub given_read : nat_le letters_end flying.sent ≡ false → StepDid on (Ok Done) (step.GiveUp ticket) (state_with nodes flying seconds book) (state_with new flying' seconds book)
      given_read early = read_did on nodes new (beside_goes on nodes new all_beside) flying flying' seconds book book (Ok Done) (step.GiveUp ticket) refl (sym fit) tt tt (λ n. refl) tt (same_book (booked_by book)) tt
          (λ known ended story v st sound. given_leads early v st) tt
