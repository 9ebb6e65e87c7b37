-- What an ask of a call that reads does.
use Rattle.std.proofs.Common.{◌≡◌, ⊎_elim, ℕ, zero, suc, Bool, true, false, List, [], ◌∷◌, map, Option, Some, None, is_some, Result, Ok, Err, refl, sym, ap, ◌∙◌, subst}
use Rattle.std.specs.Prelude.{IfSome}
use Rattle.std.specs.List.{list_all}
use Rattle.std.specs.Option.{option_map}
use Rattle.mail_model.specs.Record.{Record}
use Rattle.object_model.specs.Letters as letters
use Rattle.object_model.specs.Letters.{Number, Letter}
use Rattle.cluster_model.specs.Cluster as plain
use Rattle.cluster_model.specs.Progress as progress
use Rattle.cluster_model.specs.Deeds.{slot_up}
use Rattle.cluster_model.specs.Reads.{Found as FoundIs}
use Rattle.cluster_model.specs.Rules.{ticket_at}
use Rattle.cluster_model.specs.Steps as mail_steps
use Rattle.cluster_model.specs.Steps.{is_node}
use Rattle.whole_model.specs.Whole as whole
use Rattle.whole_world.specs.Steps as whole_steps
use Rattle.login_model.specs.Listing.{as_copy}
use Rattle.login_model.specs.Readings.{ReadTicket}
use Rattle.login_model.specs.Progress.{ReadAnswer, ReadAsk, ask_read}
use Rattle.login_model.specs.Progress.ReadAnswer.{Lists, Denies, Gives, Fails}
use Rattle.login_model.specs.Progress as read_progress
use Rattle.login_model.specs.Rules.{read_at}
use Rattle.joint_model.specs.Joint as joint
use Rattle.joint_model.specs.Joint.{read_node, whole_slot}
use Rattle.joint_world.specs.World as joint_world
use Rattle.joint_world.specs.World.{whole_world_of, mail_world_of}
use Rattle.joint_world.specs.Asking as joint_asking
use Rattle.joint_world.specs.Rules.{Reaction}
use Rattle.joint_world.specs.Steps.{step_fault}
use Rattle.joint_world.specs.Makes as joint_makes
use Rattle.mail_base.specs.declared.item.Item.{Item}
use Rattle.call_tickets.specs.declared.answer.Ask.{Ask}
use Rattle.call_tickets.specs.declared.answer.Ask.TheVariants as code
use Rattle.call_tickets.specs.declared.answer.Answer.{Answer}
use Rattle.call_tickets.specs.declared.answer.Answer.TheVariants as answers
use Rattle.node_tickets.specs.Seen.{ask_seen, progress_seen, copy_seen}
use Rattle.node_store.specs.Disks.{View}
use Rattle.node_reads.specs.Asking.{AnswersAs, done_at}
use Rattle.told_lists.specs.Joining.{login_item}
use Rattle.node_core.specs.Nodes.{node_seen, IsNodeOf, NodeKeeps}
use Rattle.node_core.specs.Standing.{ticket_standing}
use Rattle.whole_node.specs.Nodes.{joint_seen, WholeWorks}
use Rattle.whole_node.specs.Reading.{IsUnchanged}
use Rattle.whole_node.specs.ReadTickets.{reading_standing, AnswersBy, AsksUnder, AsksRead}
use Rattle.whole_node.specs.declared.node.WholeNode.{WholeNode}
use Rattle.world_book.specs.declared.book.Book.{Book}
use Rattle.cluster_world.specs.AskingReads.{IsReader, StandsAmongReads, AsksReading, IsReadAskedOn}
use Rattle.cluster_world.specs.Books.{booked_by}
use Rattle.cluster_world.specs.Changes.{ChangesNode}
use Rattle.cluster_world.specs.Flights.{InFlight}
use Rattle.cluster_world.specs.Lives.{of_node, CanWorkOn}
use Rattle.cluster_world.specs.Maps.{StandsForAll}
use Rattle.cluster_world.specs.Reading.{AllStand, StaysBeside}
use Rattle.cluster_world.specs.Seen.{whole_step, whole_outcome}
use Rattle.cluster_world.specs.Sure.{is_done_of, is_done_in}
use Rattle.cluster_world.specs.Telling.{standing_on, reading_on}
use Rattle.cluster_world.specs.Turns.{life_refusal, node_refusal}
use Rattle.cluster_world.specs.Worlds.{WorldState, life_among, memory_of_life, memory_in, disk_in, tells_in, state_with}
use Rattle.cluster_world.specs.Steps.{StepDid, LeadsTo, AreSettled, IsUnchanged as StateUnchanged}
use Rattle.cluster_world.specs.declared.life.Life.{Life}
use Rattle.cluster_world.specs.declared.life.Life.TheVariants.{Up}
use Rattle.cluster_world.specs.declared.nodes.Nodes.{Nodes}
use Rattle.cluster_world.specs.declared.step.Step.TheVariants as step
use Rattle.cluster_world.specs.declared.step.Said.{Said}
use Rattle.cluster_world.specs.declared.step.Said.TheVariants.{Asked}
use Rattle.cluster_world.specs.declared.fault.StepFault.{StepFault}
use Rattle.cluster_world.specs.declared.fault.StepFault.TheVariants as fault
use Rattle.cluster_world.proofs.Asked.{slot_same, ready_of, disk_of, up_whole}
use Rattle.cluster_world.proofs.Changing.{set_same}
use Rattle.cluster_world.proofs.Longer.{same_book}
use Rattle.cluster_world.proofs.ReadFinds.{is_of_reads, reads_go}
use Rattle.cluster_world.proofs.ReadSlots.{HasUp, up_for, mail_there, mail_set}
use Rattle.cluster_world.proofs.ReadTurns.{Turns, unchanged_seen, unchanged_mail, turned_disks, turned_beside, turned_stand, beside_handed, beside_told, beside_quiet, beside_settled, beside_stops}
use Rattle.cluster_world.proofs.Refusing.{fit_of, ask_goes}
use Rattle.cluster_world.proofs.Still.{some_same, nothing_read}
use Rattle.cluster_world.proofs.Turned.{life_there, life_else, same_or}

-- a world that nodes stand for, as nodes with all that they keep
pub all_of : {D : Type 0} (on : View D) (state : WorldState D) (v : joint_world.World) → StandsForAll on state v → AllStand on state.lives state.disks v.slots
all_of on state v st = record { mail = st.mail.slots; maps = st.maps; reads = st.reads }

-- an answer of the code, in the words of an ask of any ticket
copies_same : (items : List Item) → map copy_seen items ≡ map as_copy (map login_item items)
copies_same [] = refl
copies_same (item ∷ items) = ap (λ l. copy_seen item ∷ l) (copies_same items)

answers_so : (number : Number) (answer : ReadAnswer) (given : Answer) → AnswersAs number answer given → joint_asking.AnswersAs number answer (progress_seen given)
answers_so number (Lists manager named told) (answers.Listed login_ by asked items) (same, manages, names, merge) = (
  map login_item items,
  merge,
  λ i. progress.NodeAnswer.Read (FoundIs.Listed (same i) (manages i) (names i) (copies_same items i)),
)
answers_so number (Denies manager (letters.LoginWord.Wrong stamp)) (answers.Wrong shown) is = (FoundIs.WrongSecret shown, ap FoundIs.WrongSecret is, refl)
answers_so number (Denies manager (letters.LoginWord.InUse login_)) (answers.InUse by) is = (FoundIs.InUse by, ap FoundIs.InUse is, refl)
answers_so number (Denies manager letters.LoginWord.NoProfile) (answers.NoProfile by) is = (FoundIs.NoProfile by, ap FoundIs.NoProfile is, refl)
answers_so number (Gives (letters.ToldPart.Octets octets whole)) (answers.Part given_ length) (same, long) = λ i. progress.NodeAnswer.Read (FoundIs.PartOf (same i) (long i))
answers_so number (Gives (letters.ToldPart.Gone stamp)) answers.GoneAlready is = refl
answers_so number (Fails mishaps) (answers.Failed counts) is = ap progress.NodeAnswer.Failed is
answers_so number answer given as_ = absurd as_

-- a slot that is written with what it was
slot_again : (slots : List joint.Slot) (n : ℕ) (slot : joint.Slot) → joint.slot_at slots n ≡ Some slot → joint.with_slot slots n slot ≡ slots
slot_again slots zero slot e = refl
slot_again slots (suc k) slot e = set_same slots k slot e

-- what the ask leaves of the node
module _ (ticket : Number) (a b : WholeNode) (works : (seen : Option (List ℕ)) → WholeWorks seen a → WholeWorks seen b) (records : List Record) (keeps : NodeKeeps records a.mail) where
  unchanged_turns : IsUnchanged a b → Turns a b
  unchanged_turns u = record { mail = unchanged_mail a b u; whole = ap (λ (n : joint.Node). n.whole) (unchanged_seen a b u); works = works }

  under_turns : (t : Option ReadTicket) (ask : Option Ask) → AsksUnder ticket t ask a b → Turns a b
  under_turns None ask did = unchanged_turns did.1
  under_turns (Some t) ask did = by (ask_read t t.reading) did
    where
      by : (r : ReadAsk) → AnswersBy ticket r ask a b → Turns a b
      by (read_progress.ReadAsk.Pending got wanted) did = unchanged_turns did.1
      by (read_progress.ReadAsk.Done answer) (given, is, as_, did) = record { mail = did.mail; whole = ap (λ (r : Reaction). r.node.whole) (did.did true records keeps); works = works }

  asked_turns : {E : Type 0} (result : Result (Option Ask) E) → AsksRead ticket result a b → Turns a b
  asked_turns (Ok ask) did = under_turns (reading_standing a ticket) ask did
  asked_turns (Err why) did = unchanged_turns did.1

module _ {D E : Type 0} (on : View D) (ticket : Number) (result : Result (Option Ask) E) (old new : Nodes D) (fit : node_refusal old.plan (life_among old) (step.Ask ticket) ≡ None)
    (reads : StandsAmongReads ticket (of_node old.lives.items ticket.node)) (ready : CanWorkOn on.seen old.plan old.lives.items old.disks.items) (ch : ChangesNode ticket.node (IsReadAskedOn ticket result) old new) where
  abbrev P : Life → D → Life → D → Type 0
  P = IsReadAskedOn ticket result

  abbrev did : AsksReading ticket result ch.life ch.life'
  did = ch.does.0

  named : list_all (is_node old.plan) (ticket.node ∷ []) ≡ true
  named = (fit_of (list_all (is_node old.plan) (ticket.node ∷ [])) (life_refusal (step.Ask ticket) (life_among old ticket.node)) fit).0

  here : of_node old.lives.items ticket.node ≡ Some (Up did.old)
  here = ch.was ∙ ap Some did.was

  of : IsNodeOf old.plan ticket.node did.old.mail × WholeWorks (on.seen ch.disk) did.old
  of = ready_of on.seen old.plan old.lives.items old.disks.items ready ticket.node did.old ch.disk here ch.held

  turns : Turns did.old did.new
  turns = asked_turns ticket did.old did.new did.works of.1.maps.records of.1.maps.keeps result did.asks

  pub asked_beside : StaysBeside on.seen old new
  asked_beside = turned_beside on ticket.node P old new ch did.old did.new did.was did.is ch.does.1 turns

  -- the tickets that stand at the node
  no_mail : is_some (ticket_at ticket.node (node_seen did.old.mail) (Some ticket)) ≡ false
  no_mail = ap (λ own. is_some (ticket_at own (node_seen did.old.mail) (Some ticket))) (sym of.0.own_is) ∙ ap (λ (o : Option Life). is_some (standing_on o ticket)) (sym here) ∙ reads.none

  some_read : is_some (read_at ticket.node (read_node true (joint_seen did.old)) (Some ticket)) ≡ true
  some_read = ap (λ (o : Option Life). is_some (reading_on o ticket)) (sym here) ∙ reads.some

  standing : reading_standing did.old ticket ≡ read_at ticket.node (read_node true (joint_seen did.old)) (Some ticket)
  standing = ap (λ own. read_at own (read_node true (joint_seen did.old)) (Some ticket)) of.0.own_is

  record Found : Type 0 where
    one : ReadTicket
    is : read_at ticket.node (read_node true (joint_seen did.old)) (Some ticket) ≡ Some one

  found : Found
  found = by (read_at ticket.node (read_node true (joint_seen did.old)) (Some ticket)) refl some_read
    where
      by : (o : Option ReadTicket) → read_at ticket.node (read_node true (joint_seen did.old)) (Some ticket) ≡ o → is_some o ≡ true → Found
      by None e some = absurd (let never : false ≡ true = some in cc)
      by (Some one) e some = record { one = one; is = e }

  -- memory ran out in it
  short : (why : E) → result ≡ Err why → (done_at (reading_standing did.old ticket) ≡ true) × IsUnchanged did.old did.new
  short why told = subst (λ (r : Result (Option Ask) E). AsksRead ticket r did.old did.new) told did.asks

  -- the ticket stands, so there is an answer
  pub some_told : result ≡ Ok None → ⊥
  some_told told = under (reading_standing did.old ticket) (standing ∙ found.is) (subst (λ (r : Result (Option Ask) E). AsksRead ticket r did.old did.new) told did.asks)
    where
      by : (r : ReadAsk) → AnswersBy ticket r None did.old did.new → ⊥
      by (read_progress.ReadAsk.Pending got wanted) (is, u) = let never : None ≡ Some (code.Pending got wanted) = is in absurd (cc never)
      by (read_progress.ReadAsk.Done answer) (one, is, as_, ends) = let never : None ≡ Some (code.Done one) = is in absurd (cc never)

      under : (o : Option ReadTicket) → o ≡ Some found.one → AsksUnder ticket o None did.old did.new → ⊥
      under None e asks = absurd (let never : None ≡ Some found.one = e in cc)
      under (Some t) e asks = by (ask_read t t.reading) asks

  module _ (flying : InFlight) (seconds : ℕ) (book : Book) where
    abbrev before : WorldState D
    before = state_with old flying seconds book

    abbrev behind : WorldState D
    behind = state_with new flying seconds book

    pub asked_settled : (is_settled : D → Type 0) → AreSettled is_settled before → AreSettled is_settled behind
    asked_settled = beside_settled on old new asked_beside flying flying seconds book book

    module _ (v : joint_world.World) (st : StandsForAll on before v) where
      up : HasUp on ticket.node did.old ch.disk v.slots
      up = up_for on old.lives.items old.disks.items v.slots (all_of on before v st) ticket.node did.old ch.disk here ch.held

      next : joint_world.World
      next = record v { slots = joint.with_slot v.slots ticket.node (joint.slot_up (joint_seen did.new) up.records) }

      all : AllStand on new.lives.items new.disks.items (joint.with_slot v.slots ticket.node (joint.slot_up (joint_seen did.new) up.records))
      all = turned_stand on ticket.node P old new ch did.old did.new did.was did.is ch.does.1 turns v.slots (all_of on before v st) up

      stands : StandsForAll on behind next
      unfolding next
      stands = record { mail = record { slots = all.mail; flying = st.mail.flying; sent = st.mail.sent; seconds = st.mail.seconds; book = st.mail.book }; maps = all.maps; reads = all.reads }

      -- messages see no slot change
      mail_same : (mail_world_of next).slots ≡ (mail_world_of v).slots
      unfolding next
      mail_same = mail_set v.slots ticket.node (joint.slot_up (joint_seen did.new) up.records)
          ∙ ap (λ (w : whole.Node). plain.with_slot (mail_world_of v).slots ticket.node (slot_up w.mail up.records)) turns.whole
          ∙ slot_same (mail_world_of v).slots ticket.node (slot_up (node_seen did.old.mail) up.records) (mail_there v.slots ticket.node (joint.slot_up (joint_seen did.old) up.records) up.here)

      leads_so : (outcome : Result Said StepFault)
          → joint_makes.MakesStep old.plan (tells_in on.seen before) v (whole_step (step.Ask ticket)) (whole_outcome outcome) next → LeadsTo on outcome (step.Ask ticket) before behind v
      leads_so outcome made = record { next = next; stands = stands; made = made; stops = beside_stops on old new asked_beside flying flying seconds book book (mail_world_of v).slots (mail_world_of next).slots mail_same st.mail.slots }

      -- where nothing changed the world is the same
      next_same : IsUnchanged did.old did.new → next ≡ v
      unfolding next
      next_same u = ap (λ (s : List joint.Slot). record v { slots = s })
          (ap (λ (n : joint.Node). joint.with_slot v.slots ticket.node (joint.slot_up n up.records)) (unchanged_seen did.old did.new u) ∙ slot_again v.slots ticket.node (joint.slot_up (joint_seen did.old) up.records) up.here)

      has : joint_makes.HasTicket v ticket
      has = record { node = joint_seen did.old; disk = up.records; up = up.here; ticket = found.one; here = found.is }

      goes : step_fault old.plan (whole_step (step.Ask ticket)) v ≡ None
      goes = reads_go old.plan v ticket (joint_seen did.old) up.records up.here named (mail_steps.Step.AskFor ticket) some_read
          (ap (option_map whole_steps.StepFault.Fault) (ask_goes old.plan (mail_world_of v) ticket (slot_up (node_seen did.old.mail) up.records) (node_seen did.old.mail) named
          (mail_there v.slots ticket.node (joint.slot_up (joint_seen did.old) up.records) up.here) refl))

      answers_made : (tells : Bool) (given : Ask) → AsksUnder ticket (Some found.one) (Some given) did.old did.new → joint_makes.AnswersRead tells v ticket (whole_steps.Said.Told (mail_steps.Said.Asked (ask_seen given))) next
      unfolding next has found
      answers_made tells given under = by (ask_read found.one found.one.reading) refl under
        where
          ask_is : (x : Ask) → Some given ≡ Some x → given ≡ x
          ask_is x e = cc

          by : (r : ReadAsk) → ask_read found.one found.one.reading ≡ r → AnswersBy ticket r (Some given) did.old did.new → joint_makes.AnswersRead tells v ticket (whole_steps.Said.Told (mail_steps.Said.Asked (ask_seen given))) next
          by (read_progress.ReadAsk.Pending got wanted) e (is, u) = joint_makes.AnswersRead.Waits has got wanted e (ap (λ (x : Ask). whole_steps.Said.Told (mail_steps.Said.Asked (ask_seen x))) (ask_is (code.Pending got wanted) is)) (next_same u)
          by (read_progress.ReadAsk.Done answer) e (one, is, as_, ends) = joint_makes.AnswersRead.Ends has answer e (progress_seen one) (answers_so ticket answer one as_)
              (ap (λ (x : Ask). whole_steps.Said.Told (mail_steps.Said.Asked (ask_seen x))) (ask_is (code.Done one) is))
              (0, ap (λ (n : joint.Node). Some (record v { slots = joint.with_slot v.slots ticket.node (joint.slot_up n up.records) })) (sym (ap (λ (r : Reaction). r.node) (ends.did tells up.records up.stands.keeps))))

    -- it answers
    pub asked_did : (given : Ask) → result ≡ Ok (Some given) → StepDid on (Ok (Asked given)) (step.Ask ticket) before behind
    asked_did given told = record {
      plan = ch.plan;
      handed = beside_handed on old new asked_beside flying flying seconds book book;
      refused = sym fit;
      kind = tt;
      falls = tt;
      lives = asked_beside.lives;
      told = beside_told on old new asked_beside flying flying seconds book book;
      quiet = beside_quiet on old new asked_beside flying flying seconds book book;
      clock = refl;
      passed = tt;
      books = same_book (booked_by book);
      kept = tt;
      leads = λ known ended_ story v st sound. leads_so v st (Ok (Asked given)) (
        goes v st,
        joint_makes.DoesStep.Asks ticket refl
            (is_of_reads old.plan v ticket (joint_seen did.old) (up v st).records (up v st).here named no_mail some_read)
            (answers_made v st (tells_in on.seen before) given (subst (λ (o : Option ReadTicket). AsksUnder ticket o (Some given) did.old did.new) (standing ∙ found.is) (subst (λ (r : Result (Option Ask) E). AsksRead ticket r did.old did.new) told did.asks))),
      );
      cause = λ w st. tt;
    }

    -- memory ran out
    short_kept : IsUnchanged did.old did.new → StateUnchanged on (step.Ask ticket) before behind
    short_kept u = record {
      nodes = λ n. ⊎_elim
          (λ (same : n ≡ ticket.node). ap (λ m. memory_in behind m) same ∙ ap memory_of_life (life_there ticket.node P old new ch ∙ ap Some did.is) ∙ ap Some (unchanged_seen did.old did.new u) ∙ sym (ap memory_of_life here) ∙ ap (λ m. memory_in before m) (sym same))
          (λ other. ap memory_of_life (life_else ticket.node P old new ch n other))
          (same_or n ticket.node);
      disks = λ n disk disk' e f _. one n disk disk' e f;
      reads = λ n disk disk' e f _. (nothing_read on disk disk' (one n disk disk' e f), ap on.faults (one n disk disk' e f));
      flying = refl;
      seconds = refl;
      book = refl;
    }
      where
        one : (n : ℕ) (disk disk' : D) → disk_in before n ≡ Some disk → disk_in behind n ≡ Some disk' → disk' ≡ disk
        one n disk disk' e f = some_same disk' disk (sym f ∙ ap (λ (ds : List D). of_node ds n) (turned_disks on ticket.node P old new ch did.old did.new did.was did.is ch.does.1 turns) ∙ e)

    pub short_did : (why : E) → result ≡ Err why → StepDid on (Err (fault.NoMemory None)) (step.Ask ticket) before behind
    short_did why told = record {
      plan = ch.plan;
      handed = beside_handed on old new asked_beside flying flying seconds book book;
      refused = tt;
      kind = tt;
      falls = tt;
      lives = asked_beside.lives;
      told = beside_told on old new asked_beside flying flying seconds book book;
      quiet = beside_quiet on old new asked_beside flying flying seconds book book;
      clock = refl;
      passed = tt;
      books = same_book (booked_by book);
      kept = short_kept (short why told).1;
      leads = λ known ended_ story v st sound. leads_so v st (Err (fault.NoMemory None)) (next_same v st (short why told).1);
      cause = λ w st. tt;
    }

    -- it comes only where the call is done
    pub short_done : (why : E) → result ≡ Err why → is_done_in before ticket ≡ true
    short_done why told = ap (λ (o : Option Life). is_done_of old.plan.confirm (standing_on o ticket) (reading_on o ticket)) here
        ∙ ap (λ (t : Option plain.Ticket). is_done_of old.plan.confirm t (read_at ticket.node (read_node true (joint_seen did.old)) (Some ticket))) (none_of (ticket_standing did.old.mail ticket) (ap (λ (o : Option Life). is_some (standing_on o ticket)) (sym here) ∙ reads.none))
        ∙ ap done_at (sym standing) ∙ (short why told).0
      where
        none_of : (o : Option plain.Ticket) → is_some o ≡ false → o ≡ None
        none_of None e = refl
        none_of (Some t) e = absurd (let never : true ≡ false = e in cc)

-- a node whose ticket is asked for is up
pub reader_of : {D : Type 0} (seen : D → Option (List ℕ)) (ticket : Number) (nodes : Nodes D) → node_refusal nodes.plan (life_among nodes) (step.Ask ticket) ≡ None
    → CanWorkOn seen nodes.plan nodes.lives.items nodes.disks.items → (l : Life) → of_node nodes.lives.items ticket.node ≡ Some l → IsReader ticket.node l
reader_of seen ticket nodes fit ready l at =
    let up = up_whole seen ticket nodes fit ready l at in
    let (disk, held) = disk_of nodes.disks.items nodes.lives.items ticket.node l (nodes.all ∙ sym nodes.disk_each) at in
    let (of, works) = ready_of seen nodes.plan nodes.lives.items nodes.disks.items ready ticket.node up.node disk (at ∙ ap Some up.up) held in
    record { node = up.node; up = up.up; own_is = of.own_is; reads = record { whole = works.mail.whole; maps = works.maps; reads = works.reads } }

pub if_reader : (P : Life → Type 0) (o : Option Life) → ((l : Life) → o ≡ Some l → P l) → IfSome o P
if_reader P None each = tt
if_reader P (Some l) each = each l refl
