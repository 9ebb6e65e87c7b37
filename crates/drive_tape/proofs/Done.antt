-- Steps of which nothing is said but that they are done.
use Rattle.std.proofs.Common.{◌≡◌, ℕ, Result, Ok, Err, refl, ap}
use Rattle.std.specs.Prelude.{IfOk}
use Rattle.object_model.specs.Letters.{Number}
use Rattle.cluster_world.specs.Steps.{SaysSo}
use Rattle.cluster_world.specs.declared.step.Step.{Step}
use Rattle.cluster_world.specs.declared.step.Step.TheVariants as step
use Rattle.cluster_world.specs.declared.step.Said.{Said}
use Rattle.cluster_world.specs.declared.step.Said.TheVariants as said
use Rattle.cluster_world.specs.declared.fault.StepFault.{StepFault}
use Rattle.cluster_world.specs.declared.fault.StepFault.TheVariants as step_fault
use Rattle.cluster_world.specs.Turns.{life_after_step}
use Rattle.session_model.specs.Events.{NodeLife}
use Rattle.drive_tape.specs.declared.drove.Stop.{Stop}
use Rattle.drive_tape.specs.declared.drove.Stop.TheVariants.{Bad, NoMemory}
use Rattle.drive_tape.specs.declared.drove.TapeFault.{TapeFault}
use Rattle.drive_tape.specs.Denials.{stop_by, IsDoneOr}

pub crash_done : (node : ℕ) (what : Said) → SaysSo (step.Crash node) what → what ≡ said.Done
crash_done node said.Done so = refl
crash_done node what so = absurd so

pub loss_done : (node : ℕ) (what : Said) → SaysSo (step.Lose node) what → what ≡ said.Done
loss_done node said.Done so = refl
loss_done node what so = absurd so

pub drop_done : (letter : ℕ) (what : Said) → SaysSo (step.Drop letter) what → what ≡ said.Done
drop_done letter said.Done so = refl
drop_done letter what so = absurd so

pub given_up : (ticket : Number) (what : Said) → SaysSo (step.GiveUp ticket) what → what ≡ said.Done
given_up ticket said.Done so = refl
given_up ticket what so = absurd so

-- the result, where the step was done
pub was_done : {T : Type 0} (one : Step) (result : Result Said StepFault) (t : T) → IsDoneOr result (Ok t) → IfOk result (SaysSo one) → ((what : Said) → SaysSo one what → what ≡ said.Done) → result ≡ Ok said.Done
was_done one (Ok what) t done says only = ap Ok (only what says)
was_done one (Err why) t done says only = absurd done

-- and where it was refused
pub was_refused : (T : Type 0) (result : Result Said StepFault) (stop : Stop) → IsDoneOr {T = T} result (Err stop) → (why : StepFault) × (result ≡ Err why) × (stop ≡ stop_by why)
was_refused T (Ok what) stop done = absurd done
was_refused T (Err why) stop done = (why, refl, done)

-- a step that was refused for a fault of the tape leaves each node as it was
pub refused_life : (why : StepFault) (one : Step) (n : ℕ) (was : NodeLife) (fault : TapeFault) → stop_by why ≡ Bad fault → life_after_step (Err why) one n was ≡ was
refused_life step_fault.NoSuchNode one n was fault is = refl
refused_life step_fault.NodeLost one n was fault is = refl
refused_life step_fault.NodeDown one n was fault is = refl
refused_life step_fault.NodeUp one n was fault is = refl
refused_life step_fault.NoSuchLetter one n was fault is = refl
refused_life step_fault.NoSuchTicket one n was fault is = refl
refused_life step_fault.NotAGroup one n was fault is = refl
refused_life step_fault.Worn one n was fault is = refl
refused_life step_fault.NoRoom one n was fault is = refl
refused_life (step_fault.NoMemory down) one n was fault is = absurd (let never : NoMemory ≡ Bad fault = is in cc)
