-- Over which worlds a desk can be.
use Rattle.std.specs.Prelude.{Result}
use Rattle.mail_model.specs.Plan.{Plan}
use Rattle.node_store.specs.Disks.{View}
use Rattle.cluster_world.specs.Ended.{IsEnded}
use Rattle.cluster_world.specs.Opens.{IsAtBeginning}
use Rattle.cluster_world.specs.Steps.{IsStep, StepIsKnown}
use Rattle.cluster_world.specs.Worlds.{state_of, CanMakeSteps}
use Rattle.cluster_world.specs.declared.world.World.{World}
use Rattle.cluster_world.specs.declared.step.Step.{Step}
use Rattle.cluster_world.specs.declared.step.Said.{Said}
use Rattle.cluster_world.specs.declared.fault.StepFault.{StepFault}
use Rattle.solo_desk.specs.Serving.{CanServe}

-- over one that was opened
abbrev pub OpenedServe : {D : Type 0} → View D → Type 0
OpenedServe {D} on = (plan : Plan) (world : World D) → IsAtBeginning on plan world → CanServe on world

-- and over one that comes of a step, of which the machine's is known, over such a world
abbrev pub StepsServe : {D : Type 0} → View D → Type 0
StepsServe {D} on = (result : Result Said StepFault) (step : Step) (old new : World D) → IsStep on result step old new → StepIsKnown on.seen (state_of old) step → IsEnded step
    → CanMakeSteps on.seen new → CanServe on old → CanServe on new
