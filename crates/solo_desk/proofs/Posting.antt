-- What comes of a letter that is posted, of a call that is given up, and of a Leave.
use Rattle.std.proofs.Common.{◌≡◌, inl, inr, ℕ, true, false, sym, subst}
use Rattle.std.specs.Prelude.{Some, Result, Ok, Err}
use Rattle.object_model.specs.Letters.{Number}
use Rattle.call_tickets.specs.declared.call.Call.{Call}
use Rattle.call_tickets.specs.declared.call.Call.TheVariants as call
use Rattle.call_tickets.specs.declared.desk.DeskFault.{DeskFault}
use Rattle.call_tickets.specs.declared.desk.Posted.{Posted}
use Rattle.call_tickets.specs.declared.desk.DeskTicket.{DeskTicket}
use Rattle.node_store.specs.Disks.{View}
use Rattle.node_core.specs.Beginning.{IsTextEnded, call_seen as machine_call}
use Rattle.cluster_world.specs.Flights.{first_number}
use Rattle.cluster_world.specs.Steps.{IsStep}
use Rattle.cluster_world.specs.Worlds.{state_of}
use Rattle.cluster_world.specs.declared.world.World.{World}
use Rattle.cluster_world.specs.declared.step.Step.TheVariants as step
use Rattle.cluster_world.specs.declared.step.Said.{Said}
use Rattle.cluster_world.specs.declared.step.Said.TheVariants as said
use Rattle.cluster_world.specs.declared.fault.StepFault.{StepFault}
use Rattle.cluster_world.specs.declared.fault.StepFault.TheVariants as fault
use Rattle.desk_model.specs.Added.{AreQuiet}
use Rattle.solo_desk.specs.GivingUp.{EndsAs}
use Rattle.solo_desk.specs.Leaving.{IsLeave}
use Rattle.solo_desk.specs.Serving.{CanServe, AddsTo}
use Rattle.solo_desk.specs.Posting.{IsPosted}
use Rattle.solo_desk.specs.Steps.{GivesUpBy, PostsBy}
use Rattle.solo_desk.proofs.Stepping.{idle_adds}

module _ {D : Type 0} (on : View D) (old new : World D) (serves : CanServe on old) where
  pub post_adds : (came : Result Said StepFault) (letter : ℕ) → IsStep on came (step.Post letter false) old new → AddsTo AreQuiet old new
  post_adds came letter is = idle_adds on came (step.Post letter false) old new is (inr tt) tt serves tt

  -- a call that is given up
  pub give_up_adds : (came : Result Said StepFault) (number : Number) → IsStep on came (step.GiveUp number) old new → AddsTo AreQuiet old new
  give_up_adds came number is = idle_adds on came (step.GiveUp number) old new is (inr tt) tt serves tt

  -- a Leave
  pub leave_adds : (came : Result Said StepFault) (node : ℕ) (begun : Call) → IsLeave begun true → IsStep on came (step.Begin node begun) old new → AddsTo AreQuiet old new
  leave_adds came node (call.Leave user login manager) leave is = idle_adds on came (step.Begin node (call.Leave user login manager)) old new is (inr tt) tt serves tt
  leave_adds came node (call.Deliver deliver) leave is = absurd (let never : true ≡ false = leave in cc)
  leave_adds came node (call.Login user proof) leave is = absurd (let never : true ≡ false = leave in cc)
  leave_adds came node (call.Fetch user id holders from most) leave is = absurd (let never : true ≡ false = leave in cc)
  leave_adds came node (call.Strike user items) leave is = absurd (let never : true ≡ false = leave in cc)

module _ {D : Type 0} (on : View D) (old new : World D) where
  pub gave_up_by : (ticket : DeskTicket) (came : Result Said StepFault) (result : Result (Unit {0}) DeskFault) → EndsAs came result → IsStep on came (step.GiveUp ticket.ticket) old new → GivesUpBy on ticket result old new
  gave_up_by ticket came (Err why) ends is = tt
  gave_up_by ticket (Err why) (Ok done) ends is = inr (inr (why, ends, is))
  gave_up_by ticket (Ok said.Done) (Ok done) ends is = inr (inl is)
  gave_up_by ticket (Ok (said.Begun number stirs)) (Ok done) ends is = absurd is.did.kind
  gave_up_by ticket (Ok said.Noted) (Ok done) ends is = absurd is.did.kind
  gave_up_by ticket (Ok (said.Asked ask)) (Ok done) ends is = absurd is.did.kind
  gave_up_by ticket (Ok said.Heard) (Ok done) ends is = absurd is.did.kind
  gave_up_by ticket (Ok (said.Thrown why)) (Ok done) ends is = absurd is.did.kind
  gave_up_by ticket (Ok (said.Sent letters)) (Ok done) ends is = absurd is.did.kind
  gave_up_by ticket (Ok (said.Widened did)) (Ok done) ends is = absurd is.did.kind
  gave_up_by ticket (Ok (said.Grouped epoch)) (Ok done) ends is = absurd is.did.kind
  gave_up_by ticket (Ok (said.Concluded epoch members)) (Ok done) ends is = absurd is.did.kind
  gave_up_by ticket (Ok (said.NodeUp boot)) (Ok done) ends is = absurd is.did.kind
  gave_up_by ticket (Ok (said.Faulted n)) (Ok done) ends is = absurd is.did.kind

pub leave_is_ended : (begun : Call) → IsLeave begun true → IsTextEnded (machine_call begun)
leave_is_ended (call.Leave user login manager) leave = tt
leave_is_ended (call.Deliver deliver) leave = absurd (let never : true ≡ false = leave in cc)
leave_is_ended (call.Login user proof) leave = tt
leave_is_ended (call.Fetch user id holders from most) leave = tt
leave_is_ended (call.Strike user items) leave = tt

-- The letter of the lowest number was posted, as is answered.
pub posted_by : {D : Type 0} (on : View D) (old new : World D) (letter : ℕ) (came : Result Said StepFault) (result : Result Posted DeskFault)
    → first_number (state_of old).flying.flights ≡ Some letter → IsStep on came (step.Post letter false) old new → IsPosted came result → PostsBy on result old new
posted_by on old new letter (Ok what) result first is e = subst (λ r. PostsBy on r old new) (sym e) (letter, what, first, is)
posted_by on old new letter (Err fault.Worn) result first is e = subst (λ r. PostsBy on r old new) (sym e) (letter, fault.Worn, first, is)
posted_by on old new letter (Err (fault.NoMemory down)) result first is e = subst (λ r. PostsBy on r old new) (sym e) (letter, fault.NoMemory down, first, is)
posted_by on old new letter (Err fault.NoSuchNode) result first is e = subst (λ r. PostsBy on r old new) (sym e) (letter, fault.NoSuchNode, first, is)
posted_by on old new letter (Err fault.NodeLost) result first is e = subst (λ r. PostsBy on r old new) (sym e) (letter, fault.NodeLost, first, is)
posted_by on old new letter (Err fault.NodeDown) result first is e = subst (λ r. PostsBy on r old new) (sym e) (letter, fault.NodeDown, first, is)
posted_by on old new letter (Err fault.NodeUp) result first is e = subst (λ r. PostsBy on r old new) (sym e) (letter, fault.NodeUp, first, is)
posted_by on old new letter (Err fault.NoSuchLetter) result first is e = subst (λ r. PostsBy on r old new) (sym e) (letter, fault.NoSuchLetter, first, is)
posted_by on old new letter (Err fault.NoSuchTicket) result first is e = subst (λ r. PostsBy on r old new) (sym e) (letter, fault.NoSuchTicket, first, is)
posted_by on old new letter (Err fault.NotAGroup) result first is e = subst (λ r. PostsBy on r old new) (sym e) (letter, fault.NotAGroup, first, is)
posted_by on old new letter (Err fault.NoRoom) result first is e = subst (λ r. PostsBy on r old new) (sym e) (letter, fault.NoRoom, first, is)
