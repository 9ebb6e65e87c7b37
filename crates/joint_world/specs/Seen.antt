-- What the whole machine sees of each step: the very same step.
use Rattle.std.specs.Prelude.{Bool, List}
use Rattle.mail_model.specs.Plan.{Plan}
use Rattle.whole_world.specs.Steps.{Step, StepOutcome}
use Rattle.whole_world.specs.Makes as whole
use Rattle.login_model.specs.Cluster as login
use Rattle.joint_world.specs.World.{World, whole_world_of}
use Rattle.joint_world.specs.Makes.{MakesStep, MakesAll}
use Rattle.joint_world.specs.Laws.{Stands}

abbrev pub WholeSees : Type 0
WholeSees = (plan : Plan) (tells : Bool) (story : List (List login.Slot)) (old new : World) (step : Step) (outcome : StepOutcome) → MakesStep plan tells old step outcome new → Stands plan tells story old
    → whole.MakesStep plan tells (whole_world_of old) step outcome (whole_world_of new)

-- So it sees a chain of steps as the same chain. And what messages see of that is said by its own laws.
abbrev pub WholeSeesAll : Type 0
WholeSeesAll = (plan : Plan) (tells : Bool) (story : List (List login.Slot)) (old new : World) (steps : List whole.MadeStep) → MakesAll plan tells old steps new → Stands plan tells story old
    → whole.MakesAll plan tells (whole_world_of old) steps (whole_world_of new)
