-- What it does to give a call up.
use Rattle.std.proofs.Common.{◌≡◌, inl, ℕ, ◌+◌, nat_le, true, false, [], ◌∷◌, Option, Some, None, Ok, Err, refl, sym, ap, ◌∙◌, subst, arith}
use Rattle.std.specs.Prelude.{is_some}
use Rattle.std.specs.List.{list_all}
use Rattle.mail_base.specs.declared.filing.CallKind.{CallKind}
use Rattle.object_model.specs.Letters.{Number}
use Rattle.cluster_model.specs.Cluster as plain
use Rattle.cluster_model.specs.Cluster.{Slot, slot_at}
use Rattle.cluster_model.specs.Rules.{ticket_at}
use Rattle.cluster_model.specs.World as machine
use Rattle.cluster_model.specs.Steps.{is_node, stands_at, letters_end}
use Rattle.node_tickets.specs.Standing.{call_kind_seen, kind_of_ticket}
use Rattle.node_store.specs.Disks.{View}
use Rattle.node_core.specs.Nodes.{node_seen}
use Rattle.node_core.specs.Standing.{ticket_standing}
use Rattle.whole_node.specs.declared.node.WholeNode.{WholeNode}
use Rattle.world_book.specs.declared.book.Book.{Book}
use Rattle.cluster_world.specs.Flights.{InFlight}
use Rattle.cluster_world.specs.Lives.{of_node, falls_left, all_falls_left, CanWorkOn}
use Rattle.cluster_world.specs.Worlds.{seen_life, life_among, state_with, StateStandsFor}
use Rattle.cluster_world.specs.Changes.{ChangesNode}
use Rattle.cluster_world.specs.Asking.{IsUpWhole, IsRetoldOn, tickets_without, StandsAmongMails}
use Rattle.cluster_world.specs.Turns.{life_refusal, node_refusal}
use Rattle.cluster_world.specs.Steps.{StepDid, AreSettled}
use Rattle.cluster_world.specs.declared.life.Life.{Life}
use Rattle.cluster_world.specs.declared.life.Life.TheVariants.{Up, Down, Lost}
use Rattle.cluster_world.specs.declared.nodes.Nodes.{Nodes}
use Rattle.cluster_world.specs.declared.step.Step.TheVariants as step
use Rattle.cluster_world.specs.declared.step.Said.TheVariants.{Done}
use Rattle.cluster_world.specs.declared.fault.StepFault.TheVariants as fault
use Rattle.cluster_world.specs.Books.{booked_by}
use Rattle.cluster_world.proofs.Still.{some_same}
use Rattle.cluster_world.proofs.Same.{same_told, same_quiet, same_unchanged, led_refused}
use Rattle.cluster_world.proofs.Turned.{slot_of, falls_now}
use Rattle.cluster_world.proofs.Refusing.{fit_of, give_up_is_worn}
use Rattle.cluster_world.proofs.Asked.{ready_of, disk_of, give_up_done, retold_ready, retold_settled}
use Rattle.cluster_world.proofs.Longer.{same_book}
use Rattle.cluster_world.proofs.WholeFaults.{give_up_alike}
use Rattle.cluster_world.proofs.Wholly.{even_of}
use Rattle.joint_world.specs.World.{whole_world_of}
use Rattle.whole_world.specs.World.{mail_world_of}
use Rattle.whole_world.specs.Steps as whole_steps
use Rattle.cluster_model.specs.Steps as steps
use Rattle.std.specs.Option.{option_map}

-- A ticket of messages stands at a node that is up.
pub record StandsUp (ticket : Number) (o : Option Life) : Type 0 where
  pub node : WholeNode
  pub up : o ≡ Some (Up node)
  pub stood : is_some (ticket_standing node.mail ticket) ≡ true

pub stands_up : (ticket : Number) (o : Option Life) → StandsAmongMails ticket o → StandsUp ticket o
stands_up ticket None stands = absurd (let never : false ≡ true = stands in cc)
stands_up ticket (Some (Up node)) stands = record { node = node; up = refl; stood = stands }
stands_up ticket (Some Down) stands = absurd (let never : false ≡ true = stands in cc)
stands_up ticket (Some Lost) stands = absurd (let never : false ≡ true = stands in cc)

pub stood_at : (ticket : Number) (o : Option Life) (node : WholeNode) → StandsAmongMails ticket o → o ≡ Some (Up node) → is_some (ticket_standing node.mail ticket) ≡ true
stood_at ticket o node stands e = subst (λ (x : Option Life). StandsAmongMails ticket x) e stands

-- a node at which a ticket may be given up is up
give_up : (ticket : Number) (o : Option Life) (l : Life) → o ≡ Some l → life_refusal (step.GiveUp ticket) (seen_life o) ≡ None → (node : WholeNode) × (l ≡ Up node)
give_up ticket None l e h = absurd (let never : None ≡ Some l = e in cc)
give_up ticket (Some (Up node)) l e h = (node, some_same l (Up node) (sym e))
give_up ticket (Some Down) l e h = absurd (let never : Some fault.NodeDown ≡ None = h in cc)
give_up ticket (Some Lost) l e h = absurd (let never : Some fault.NodeLost ≡ None = h in cc)

module _ {D : Type 0} (on : View D) (ticket : Number) (nodes : Nodes D) (fit : node_refusal nodes.plan (life_among nodes) (step.GiveUp ticket) ≡ None)
    (ready : CanWorkOn on.seen nodes.plan nodes.lives.items nodes.disks.items) where
  named : list_all (is_node nodes.plan) (ticket.node ∷ []) ≡ true
  named = (fit_of (list_all (is_node nodes.plan) (ticket.node ∷ [])) (life_refusal (step.GiveUp ticket) (life_among nodes ticket.node)) fit).0

  fits : life_refusal (step.GiveUp ticket) (life_among nodes ticket.node) ≡ None
  fits = (fit_of (list_all (is_node nodes.plan) (ticket.node ∷ [])) (life_refusal (step.GiveUp ticket) (life_among nodes ticket.node)) fit).1

  pub give_up_whole : (l : Life) → of_node nodes.lives.items ticket.node ≡ Some l → IsUpWhole l
  give_up_whole l here =
      let (node, up) = give_up ticket (of_node nodes.lives.items ticket.node) l here fits in
      let (disk, held) = disk_of nodes.disks.items nodes.lives.items ticket.node l (nodes.all ∙ sym nodes.disk_each) here in
      let (of, works) = ready_of on.seen nodes.plan nodes.lives.items nodes.disks.items ready ticket.node node disk (here ∙ ap Some up) held in
      record { node = node; up = up; whole = works.mail.whole }

  module _ (node : WholeNode) (up : of_node nodes.lives.items ticket.node ≡ Some (Up node)) (flying : InFlight) (seconds : ℕ) (book : Book) where
    -- how the machine finds the ticket
    record Finds (w : machine.World) : Type 0 where
      slot : Slot
      here : slot_at w.slots ticket.node ≡ Some slot
      is : slot.life ≡ plain.Life.Up (node_seen node.mail)
      stands : stands_at ticket (slot_at w.slots ticket.node) ≡ is_some (ticket_standing node.mail ticket)

    finds : (w : machine.World) → StateStandsFor on (state_with nodes flying seconds book) w → Finds w
    finds w st =
        let (disk, held) = disk_of nodes.disks.items nodes.lives.items ticket.node (Up node) (nodes.all ∙ sym nodes.disk_each) up in
        let (slot, here, stood) = slot_of on nodes.lives.items nodes.disks.items w.slots ticket.node (Up node) disk st.slots up held in
        let (seen, life_is, s) = stood in
        let of = (ready_of on.seen nodes.plan nodes.lives.items nodes.disks.items ready ticket.node node disk up held).0 in
        let is : slot.life ≡ plain.Life.Up (node_seen node.mail) = life_is ∙ ap plain.Life.Up (sym s.seen_is) in
        record {
          slot = slot;
          here = here;
          is = is;
          stands = ap (stands_at ticket) (here ∙ ap (λ l. Some (record { life = l; disk = slot.disk })) is)
              ∙ ap (λ own. is_some (ticket_at own (node_seen node.mail) (Some ticket))) (sym of.own_is);
        }

    pub too_late : is_some (ticket_standing node.mail ticket) ≡ true → nat_le letters_end flying.sent ≡ true
        → StepDid on (Err fault.Worn) (step.GiveUp ticket) (state_with nodes flying seconds book) (state_with nodes flying seconds book)
    too_late there late = record {
      plan = refl;
      handed = refl;
      refused = sym fit;
      kind = tt;
      falls = tt;
      lives = λ m. refl;
      told = same_told on (state_with nodes flying seconds book);
      quiet = same_quiet on (state_with nodes flying seconds book);
      clock = refl;
      passed = tt;
      books = same_book (booked_by book);
      kept = same_unchanged on (state_with nodes flying seconds book) (step.GiveUp ticket);
      leads = λ known ended story v st sound.
          let w = mail_world_of (whole_world_of v) in
          let f = finds w st.mail in
          led_refused on (state_with nodes flying seconds book) fault.Worn (whole_steps.StepFault.Fault steps.StepFault.Worn) (step.GiveUp ticket) v st refl
          ((give_up_alike on nodes.plan (state_with nodes flying seconds book) (even_of nodes) nodes.all v st.mail ticket fit (f.stands ∙ there)).faults (whole_steps.StepFault.Fault steps.StepFault.Worn)
          (ap (option_map whole_steps.StepFault.Fault) (give_up_is_worn nodes.plan w ticket f.slot (node_seen node.mail) named f.here f.is (ap (nat_le letters_end) (sym st.mail.sent) ∙ late))));
      cause = λ w st. tt;
    }

  module _ (new : Nodes D) (ch : ChangesNode ticket.node (IsRetoldOn (tickets_without ticket)) nodes new) where
    pub given_ready : CanWorkOn on.seen new.plan new.lives.items new.disks.items
    given_ready = retold_ready on ticket (tickets_without ticket) nodes new named ready ch

    pub given_falls : all_falls_left new.lives.items ≡ all_falls_left nodes.lives.items
    given_falls =
        let same : all_falls_left new.lives.items + falls_left ch.life ≡ all_falls_left nodes.lives.items + falls_left ch.life' = falls_now ticket.node (IsRetoldOn (tickets_without ticket)) nodes new ch in
        omega (arith, same, ap falls_left ch.does.0.was, ap falls_left ch.does.0.is)

    pub given_settled : (flying : InFlight) (seconds : ℕ) (book : Book) (is_settled : D → Type 0) → AreSettled is_settled (state_with nodes flying seconds book) → AreSettled is_settled (state_with new flying seconds book)
    given_settled flying seconds book is_settled = retold_settled on ticket (tickets_without ticket) nodes new named ready ch flying seconds book book is_settled

    pub given_did : (flying : InFlight) (seconds : ℕ) (book : Book) → is_some (ticket_standing ch.does.0.old.mail ticket) ≡ true → nat_le letters_end flying.sent ≡ false
        → StepDid on (Ok Done) (step.GiveUp ticket) (state_with nodes flying seconds book) (state_with new flying seconds book)
    given_did flying seconds book stood early = give_up_done on ticket (tickets_without ticket) nodes new named ready ch flying seconds book book fit stood early refl refl

pub up_same : (x y : WholeNode) → Up x ≡ Up y → x ≡ y
up_same x y e = cc
