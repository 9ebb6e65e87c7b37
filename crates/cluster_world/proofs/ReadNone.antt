-- A ticket that stands in neither table, and whose it is otherwise.
use Rattle.std.proofs.Common.{◌≡◌, ℕ, Bool, true, false, List, [], ◌∷◌, Option, Some, None, is_some, Err, refl, sym, ap, ◌∙◌, subst}
use Rattle.std.specs.List.{list_all}
use Rattle.mail_base.specs.declared.filing.CallKind.{CallKind}
use Rattle.object_model.specs.Letters.{Number}
use Rattle.cluster_model.specs.Cluster as plain
use Rattle.cluster_model.specs.Rules.{ticket_at}
use Rattle.cluster_model.specs.Steps as mail_steps
use Rattle.cluster_model.specs.Steps.{is_node}
use Rattle.whole_world.specs.Steps as whole_steps
use Rattle.login_model.specs.Rules.{read_at}
use Rattle.joint_model.specs.Joint.{read_node}
use Rattle.joint_world.specs.Steps.{asking_fault}
use Rattle.joint_world.specs.World.{World}
use Rattle.node_tickets.specs.Standing.{call_kind_seen, kind_of_ticket}
use Rattle.node_store.specs.Disks.{View}
use Rattle.node_core.specs.Nodes.{node_seen}
use Rattle.node_core.specs.Standing.{ticket_standing}
use Rattle.whole_node.specs.Nodes.{joint_seen}
use Rattle.whole_node.specs.declared.node.WholeNode.{WholeNode}
use Rattle.world_book.specs.declared.book.Book.{Book}
use Rattle.cluster_world.specs.AskingReads.{IsReader, StandsAmongReads}
use Rattle.cluster_world.specs.Asking.{StandsAmongMails}
use Rattle.cluster_world.specs.Books.{booked_by}
use Rattle.cluster_world.specs.Flights.{InFlight}
use Rattle.cluster_world.specs.Lives.{of_node, CanWorkOn}
use Rattle.cluster_world.specs.Maps.{StandsForAll}
use Rattle.cluster_world.specs.Telling.{standing_on, reading_on}
use Rattle.cluster_world.specs.Turns.{life_refusal, node_refusal}
use Rattle.cluster_world.specs.Worlds.{WorldState, life_among, state_with}
use Rattle.cluster_world.specs.Steps.{StepDid}
use Rattle.cluster_world.specs.declared.life.Life.{Life}
use Rattle.cluster_world.specs.declared.life.Life.TheVariants.{Up}
use Rattle.cluster_world.specs.declared.nodes.Nodes.{Nodes}
use Rattle.cluster_world.specs.declared.step.Step.TheVariants as step
use Rattle.cluster_world.specs.declared.fault.StepFault.TheVariants as fault
use Rattle.cluster_world.proofs.Asked.{ready_of, disk_of, up_whole}
use Rattle.cluster_world.proofs.Given.{give_up_whole}
use Rattle.cluster_world.proofs.Longer.{same_book}
use Rattle.cluster_world.proofs.ReadAsked.{all_of}
use Rattle.cluster_world.proofs.ReadFinds.{none_found}
use Rattle.cluster_world.proofs.ReadSlots.{up_for}
use Rattle.cluster_world.proofs.Refusing.{fit_of}
use Rattle.cluster_world.proofs.Same.{led_refused, same_told, same_quiet, same_unchanged}

-- a kind is told where a ticket stands
pub kind_stands : (kind : Option CallKind) (ticket : Option plain.Ticket) → call_kind_seen kind ≡ kind_of_ticket ticket → is_some kind ≡ is_some ticket
kind_stands None None e = refl
kind_stands None (Some ticket) e = absurd (let never : None ≡ Some ticket.kind = e in cc)
kind_stands (Some kind) None e = by kind e
  where
    by : (k : CallKind) → call_kind_seen (Some k) ≡ None → is_some (Some k) ≡ false
    by k h = absurd (cc h)
kind_stands (Some kind) (Some ticket) e = refl

pub among_mails : (ticket : Number) (o : Option Life) (l : Life) → o ≡ Some l → is_some (standing_on (Some l) ticket) ≡ true → StandsAmongMails ticket o
among_mails ticket o l at stands = ap (λ (x : Option Life). is_some (standing_on x ticket)) at ∙ stands

pub among_reads : (ticket : Number) (o : Option Life) (l : Life) → o ≡ Some l → is_some (standing_on (Some l) ticket) ≡ false → is_some (reading_on (Some l) ticket) ≡ true → StandsAmongReads ticket o
among_reads ticket o l at none some = record {
  none = ap (λ (x : Option Life). is_some (standing_on x ticket)) at ∙ none;
  some = ap (λ (x : Option Life). is_some (reading_on x ticket)) at ∙ some;
}

module _ {D : Type 0} (on : View D) (ticket : Number) (nodes : Nodes D) (ready : CanWorkOn on.seen nodes.plan nodes.lives.items nodes.disks.items) (flying : InFlight) (seconds : ℕ) (book : Book)
    (node : WholeNode) (here : of_node nodes.lives.items ticket.node ≡ Some (Up node)) (no_mail : is_some (standing_on (Some (Up node)) ticket) ≡ false) (no_read : is_some (reading_on (Some (Up node)) ticket) ≡ false) where
  abbrev state : WorldState D
  state = state_with nodes flying seconds book

  -- the machine finds none
  refused : (one : mail_steps.Step) → list_all (is_node nodes.plan) (ticket.node ∷ []) ≡ true → (v : World) → StandsForAll on state v
      → asking_fault nodes.plan one ticket v ≡ Some (whole_steps.StepFault.Fault mail_steps.StepFault.NoSuchTicket)
  refused one named v st =
      let (disk, held) = disk_of nodes.disks.items nodes.lives.items ticket.node (Up node) (nodes.all ∙ sym nodes.disk_each) here in
      let of = (ready_of on.seen nodes.plan nodes.lives.items nodes.disks.items ready ticket.node node disk here held).0 in
      let u = up_for on nodes.lives.items nodes.disks.items v.slots (all_of on state v st) ticket.node node disk here held in
      none_found nodes.plan v ticket (joint_seen node) u.records u.here named one
      (ap (λ own. is_some (ticket_at own (node_seen node.mail) (Some ticket))) (sym of.own_is) ∙ no_mail) no_read

  pub ask_of_none : node_refusal nodes.plan (life_among nodes) (step.Ask ticket) ≡ None → StepDid on (Err fault.NoSuchTicket) (step.Ask ticket) state state
  ask_of_none fit = record {
    plan = refl;
    handed = refl;
    refused = sym fit;
    kind = tt;
    falls = tt;
    lives = λ m. refl;
    told = same_told on state;
    quiet = same_quiet on state;
    clock = refl;
    passed = tt;
    books = same_book (booked_by book);
    kept = same_unchanged on state (step.Ask ticket);
    leads = λ known ended story v st sound. led_refused on state fault.NoSuchTicket (whole_steps.StepFault.Fault mail_steps.StepFault.NoSuchTicket) (step.Ask ticket) v st refl
        (refused (mail_steps.Step.AskFor ticket) (fit_of (list_all (is_node nodes.plan) (ticket.node ∷ [])) (life_refusal (step.Ask ticket) (life_among nodes ticket.node)) fit).0 v st);
    cause = λ w st. tt;
  }

  pub give_up_of_none : node_refusal nodes.plan (life_among nodes) (step.GiveUp ticket) ≡ None → StepDid on (Err fault.NoSuchTicket) (step.GiveUp ticket) state state
  give_up_of_none fit = record {
    plan = refl;
    handed = refl;
    refused = sym fit;
    kind = tt;
    falls = tt;
    lives = λ m. refl;
    told = same_told on state;
    quiet = same_quiet on state;
    clock = refl;
    passed = tt;
    books = same_book (booked_by book);
    kept = same_unchanged on state (step.GiveUp ticket);
    leads = λ known ended story v st sound. led_refused on state fault.NoSuchTicket (whole_steps.StepFault.Fault mail_steps.StepFault.NoSuchTicket) (step.GiveUp ticket) v st refl
        (refused (mail_steps.Step.GiveUp ticket) (fit_of (list_all (is_node nodes.plan) (ticket.node ∷ [])) (life_refusal (step.GiveUp ticket) (life_among nodes ticket.node)) fit).0 v st);
    cause = λ w st. tt;
  }

-- a node at which a ticket may be given up is up, with its tickets
pub giver_there : {D : Type 0} (on : View D) (ticket : Number) (nodes : Nodes D) → node_refusal nodes.plan (life_among nodes) (step.GiveUp ticket) ≡ None
    → CanWorkOn on.seen nodes.plan nodes.lives.items nodes.disks.items → (l : Life) → of_node nodes.lives.items ticket.node ≡ Some l → IsReader ticket.node l
giver_there on ticket nodes fit ready l at =
    let up = give_up_whole on ticket nodes fit ready l at in
    let (disk, held) = disk_of nodes.disks.items nodes.lives.items ticket.node l (nodes.all ∙ sym nodes.disk_each) at in
    let (of, works) = ready_of on.seen nodes.plan nodes.lives.items nodes.disks.items ready ticket.node up.node disk (at ∙ ap Some up.up) held in
    record { node = up.node; up = up.up; own_is = of.own_is; reads = record { whole = works.mail.whole; maps = works.maps; reads = works.reads } }
