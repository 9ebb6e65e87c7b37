-- What a step of a world over which a desk can be leaves and adds.
use Rattle.std.proofs.Common.{◌≡◌, List, [], ◌++◌, append-nil, Some, None, refl, sym, ap, ◌∙◌, subst}
use Rattle.std.specs.Prelude.{Result, Err}
use Rattle.mail_model.specs.Book.{BookEntry}
use Rattle.mail_model.specs.Plan.{Plan}
use Rattle.cluster_owes.specs.Outcomes.{IsIdleStep}
use Rattle.joint_world.specs.World.{World as Machine, mail_world_of}
use Rattle.node_store.specs.Disks.{View}
use Rattle.whole_node.specs.Starting.{first_map}
use Rattle.cluster_world.specs.Ended.{IsEnded}
use Rattle.cluster_world.specs.Opens.{IsAtBeginning}
use Rattle.cluster_world.specs.Outcomes.{IsRefusal}
use Rattle.cluster_world.specs.Seen.{step_seen, outcome_seen}
use Rattle.cluster_world.specs.Sound.{IsWhole}
use Rattle.cluster_world.specs.Steps.{IsStep, StepIsKnown}
use Rattle.cluster_world.specs.Worlds.{state_of, plan_of, book_of, disks_tell, CanMakeSteps}
use Rattle.cluster_world.specs.declared.world.World.{World}
use Rattle.cluster_world.specs.declared.step.Step.{Step}
use Rattle.cluster_world.specs.declared.step.Said.{Said}
use Rattle.cluster_world.specs.declared.fault.StepFault.{StepFault}
use Rattle.cluster_world.specs.declared.fault.StepFault.TheVariants as fault
use Rattle.cluster_world.proofs.Leading.{StepsWhole, step_leads, opens_whole}
use Rattle.desk_model.specs.Added.{Adds, AreQuiet}
use Rattle.desk_model.specs.Tickets.{TicketsAskOneThing}
use Rattle.desk_model.proofs.Tickets.{steps_ask_one_thing, opening_asks_one_thing}
use Rattle.desk_model.proofs.Begun.{idle_steps_are_quiet}
use Rattle.solo_desk.specs.Serving.{CanServe, AddsTo}

module _ {D : Type 0} (on : View D) where
  -- the machine's step
  pub led : (result : Result Said StepFault) (step : Step) (old new : World D) → IsStep on result step old new → StepIsKnown on.seen (state_of old) step → IsEnded step → (serves : CanServe on old)
      → StepsWhole on result step old new serves.whole
  led result step old new is known ended serves = step_leads on result step old new known ended is serves.whole

  pub opened_serve : (plan : Plan) (world : World D) → IsAtBeginning on plan world → CanServe on world
  opened_serve plan world begins =
      let opens = opens_whole on plan world begins in
      record {
        ready = begins.ready;
        whole = opens.0;
        tickets = subst (λ (v : Machine). TicketsAskOneThing (mail_world_of v).slots) (sym opens.1)
            (subst (λ w. TicketsAskOneThing w.slots) (sym opens.2) (opening_asks_one_thing plan.nodes (first_map plan)));
      }

  pub steps_serve : (result : Result Said StepFault) (step : Step) (old new : World D) → IsStep on result step old new → StepIsKnown on.seen (state_of old) step → IsEnded step
      → CanMakeSteps on.seen new → CanServe on old → CanServe on new
  steps_serve result step old new is known ended ready serves =
      let l = led result step old new is known ended serves in
      record {
        ready = ready;
        whole = l.whole;
        tickets = steps_ask_one_thing (plan_of old) (disks_tell on.seen old) (mail_world_of serves.whole.v) (mail_world_of l.whole.v) (step_seen step) (outcome_seen result) l.seen serves.whole.sound.whole.sound.mail
            serves.tickets;
      }

  -- what the machine's book gets, the world's gets
  pub booked : (P : List BookEntry → Type 0) (old new : World D) (h : IsWhole on (plan_of old) old) (k : IsWhole on (plan_of new) new) → Adds P (mail_world_of h.v).book (mail_world_of k.v).book → AddsTo P old new
  booked P old new h k adds =
      record { added = adds.added; book = k.stands.mail.book ∙ adds.book ∙ ap (λ b. b ++ adds.added) (sym h.stands.mail.book); is = adds.is }

  pub idle_adds : (result : Result Said StepFault) (step : Step) (old new : World D) → IsStep on result step old new → StepIsKnown on.seen (state_of old) step → IsEnded step → CanServe on old
      → IsIdleStep (step_seen step) (outcome_seen result) → AddsTo AreQuiet old new
  idle_adds result step old new is known ended serves idle =
      let l = led result step old new is known ended serves in
      booked AreQuiet old new serves.whole l.whole
      (idle_steps_are_quiet (plan_of old) (disks_tell on.seen old) (mail_world_of serves.whole.v) (mail_world_of l.whole.v) (step_seen step) (outcome_seen result) l.seen serves.whole.sound.whole.sound.mail idle)

-- a book that is as it was
pub same_adds : {D : Type 0} (old new : World D) → book_of new ≡ book_of old → AddsTo AreQuiet old new
same_adds old new same = record { added = []; book = same ∙ sym (append-nil (book_of old)); is = record { acked = refl; struck = refl } }

-- what a refused step adds
pub refused_adds : {D : Type 0} (on : View D) (why : StepFault) (step : Step) (old new : World D) → IsRefusal why → IsStep on (Err why) step old new → AddsTo AreQuiet old new
refused_adds on fault.NoSuchNode step old new refusal is = same_adds old new is.did.kept.book
refused_adds on fault.NodeLost step old new refusal is = same_adds old new is.did.kept.book
refused_adds on fault.NodeDown step old new refusal is = same_adds old new is.did.kept.book
refused_adds on fault.NodeUp step old new refusal is = same_adds old new is.did.kept.book
refused_adds on fault.NoSuchLetter step old new refusal is = same_adds old new is.did.kept.book
refused_adds on fault.NoSuchTicket step old new refusal is = same_adds old new is.did.kept.book
refused_adds on fault.NotAGroup step old new refusal is = same_adds old new is.did.kept.book
refused_adds on fault.Worn step old new refusal is = same_adds old new is.did.kept.book
refused_adds on fault.NoRoom step old new refusal is = same_adds old new is.did.kept.book
refused_adds on (fault.NoMemory None) step old new refusal is = same_adds old new is.did.kept.book
refused_adds on (fault.NoMemory (Some node)) step old new refusal is = absurd refusal
