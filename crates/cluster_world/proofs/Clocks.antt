-- A step that is refused does not set the clock.
use Rattle.std.proofs.Common.{◌≡◌, ℕ, Err, refl}
use Rattle.cluster_world.specs.Turns.{seconds_after_step}
use Rattle.cluster_world.specs.declared.step.Step.{Step}
use Rattle.cluster_world.specs.declared.step.Step.TheVariants.{Begin, Ask, GiveUp, Post, Drop, Push, Widen, Group, Conclude, Report, Crash, Start, Lose, Tick}
use Rattle.cluster_world.specs.declared.fault.StepFault.{StepFault}

pub unticked : (step : Step) (why : StepFault) (was : ℕ) → was ≡ seconds_after_step step (Err why) was
unticked (Begin node call) why was = refl
unticked (Ask ticket) why was = refl
unticked (GiveUp ticket) why was = refl
unticked (Post letter keep) why was = refl
unticked (Drop letter) why was = refl
unticked (Push from to) why was = refl
unticked (Widen at user id to) why was = refl
unticked (Group node) why was = refl
unticked (Conclude node) why was = refl
unticked (Report from to) why was = refl
unticked (Crash node) why was = refl
unticked (Start node) why was = refl
unticked (Lose node) why was = refl
unticked (Tick seconds) why was = refl
