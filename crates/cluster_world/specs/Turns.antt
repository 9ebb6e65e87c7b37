-- What a step asks of the lives of nodes, and what it makes of them.
use Rattle.std.specs.Prelude.{ℕ, List, [], ◌∷◌, ⊤, Option, Some, None, if◌then◌else◌, Result, Ok, Err}
use Rattle.std.specs.List.{list_all}
use Rattle.mail_model.specs.Plan.{Plan}
use Rattle.cluster_model.specs.Steps.{nodes_named, actor_of, is_node}
use Rattle.session_model.specs.Events.{NodeLife, NodeLife as life, turned}
use Rattle.cluster_world.specs.Seen.{step_seen}
use Rattle.cluster_world.specs.declared.step.Step.{Step}
use Rattle.cluster_world.specs.declared.step.Step.TheVariants.{Begin, Report, Crash, Start, Lose, Tick}
use Rattle.cluster_world.specs.declared.step.Said.{Said}
use Rattle.cluster_world.specs.declared.step.Said.TheVariants.{NodeUp, Done, Faulted}
use Rattle.cluster_world.specs.declared.fault.StepFault.{StepFault}
use Rattle.cluster_world.specs.declared.fault.StepFault.TheVariants as fault

-- the step begins no call
abbrev pub BeginsNone : Step → Type 0
BeginsNone (Begin node call) = ⊥
BeginsNone step = ⊤

-- what is wrong with the life of the node that is to act, or that is to stop, to start or to be lost
abbrev pub life_refusal : Step → NodeLife → Option StepFault
life_refusal step life.Lost = Some fault.NodeLost
life_refusal (Start node) (life.Up boot) = Some fault.NodeUp
life_refusal (Start node) life.Down = None
life_refusal (Lose node) lives = None
life_refusal step life.Down = Some fault.NodeDown
life_refusal step (life.Up boot) = None

abbrev pub actor_refusal : Step → (ℕ → NodeLife) → Option ℕ → Option StepFault
actor_refusal step lives None = None
actor_refusal step lives (Some node) = life_refusal step (lives node)

-- The nodes that a step names. Messages see of a report the node that tells alone.
abbrev pub nodes_of_step : Step → List ℕ
nodes_of_step (Report from to) = from ∷ to ∷ []
nodes_of_step step = nodes_named (step_seen step)

-- why a step is refused for the sake of a node that it names: that there is none, or how it is
abbrev pub node_refusal : Plan → (ℕ → NodeLife) → Step → Option StepFault
node_refusal plan lives step =
    if list_all (is_node plan) (nodes_of_step step) then actor_refusal step lives (actor_of (step_seen step)) else Some fault.NoSuchNode

-- what was refused for that sake
abbrev pub is_for_node : StepFault → Option StepFault
is_for_node fault.NoSuchNode = Some fault.NoSuchNode
is_for_node fault.NodeLost = Some fault.NodeLost
is_for_node fault.NodeDown = Some fault.NodeDown
is_for_node fault.NodeUp = Some fault.NodeUp
is_for_node fault.NoSuchLetter = None
is_for_node fault.NoSuchTicket = None
is_for_node fault.NotAGroup = None
is_for_node fault.Worn = None
is_for_node fault.NoRoom = None
is_for_node (fault.NoMemory down) = None

abbrev pub refused_for_node : Result Said StepFault → Option StepFault
refused_for_node (Ok said) = None
refused_for_node (Err fault) = is_for_node fault

-- what a step makes of the life of node n, by what it says
abbrev pub life_after_step : Result Said StepFault → Step → ℕ → NodeLife → NodeLife
life_after_step (Ok (NodeUp boot)) (Start node) n was = turned node (life.Up boot) n was
life_after_step (Ok Done) (Crash node) n was = turned node life.Down n was
life_after_step (Ok Done) (Lose node) n was = turned node life.Lost n was
life_after_step (Ok (Faulted node)) step n was = turned node life.Down n was
life_after_step (Err (fault.NoMemory (Some node))) step n was = turned node life.Down n was
life_after_step result step n was = was

-- and what it makes of the seconds of the clock
abbrev pub seconds_after_step : Step → Result Said StepFault → ℕ → ℕ
seconds_after_step (Tick seconds) (Ok said) was = seconds
seconds_after_step (Tick seconds) (Err why) was = was
seconds_after_step step result was = was
