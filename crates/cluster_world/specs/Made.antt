-- Steps that a world makes, one after another, and what each answered.
use Rattle.std.specs.Prelude.{◌≡◌, ◌⊎◌, ℕ, zero, suc, ◌+◌, Bool, true, false, not, ◌&&◌, nat_eq, List, [], ◌∷◌, ◌++◌, ⊤, MatchBool, Some, Result, Ok, Err, if◌then◌else◌}
use Rattle.object_model.specs.Sets.{has}
use Rattle.session_model.specs.Events.{NodeLife, IsUp}
use Rattle.node_store.specs.Disks.{View}
use Rattle.cluster_world.specs.Flights.{first_number}
use Rattle.cluster_world.specs.Steps.{IsStep}
use Rattle.cluster_world.specs.Telling.{members_seen}
use Rattle.cluster_world.specs.Worlds.{state_of, node_in}
use Rattle.cluster_world.specs.declared.world.World.{World}
use Rattle.cluster_world.specs.declared.step.Step.{Step}
use Rattle.cluster_world.specs.declared.step.Step.TheVariants as step
use Rattle.cluster_world.specs.declared.step.Said.{Said}
use Rattle.cluster_world.specs.declared.step.Said.TheVariants as said
use Rattle.cluster_world.specs.declared.fault.StepFault.{StepFault}

-- a step, and what it answered
pub record StepMade : Type 0 where
  pub step : Step
  pub result : Result Said StepFault

-- the world made these steps, one after another, and no others
abbrev pub MakesSteps : {D : Type 0} → View D → List StepMade → World D → World D → Type 0
MakesSteps on [] old new = new ≡ old
MakesSteps {D} on (one ∷ more) old new = (mid : World D) × IsStep on one.result one.step old mid × MakesSteps on more mid new

-- the step posts a letter that does not stay in flight
abbrev pub IsPost : StepMade → Type 0
IsPost one = (letter : ℕ) × (one.step ≡ step.Post letter false)

-- the step failed: the disk of its node did, or it was refused
abbrev pub has_failed : Result Said StepFault → Bool
has_failed (Ok (said.Faulted node)) = true
has_failed (Ok said) = false
has_failed (Err why) = true

-- The letters in flight were posted, the lowest number first, until none was left or a step failed. They stand in order of number.
abbrev pub PostsAll : {D : Type 0} → View D → List StepMade → World D → World D → Type 0
PostsAll on [] old new = ((state_of old).flying.flights ≡ []) × (new ≡ old)
PostsAll {D} on (one ∷ more) old new =
    (letter : ℕ) × (mid : World D) × (first_number (state_of old).flying.flights ≡ Some letter) × (one.step ≡ step.Post letter false) × IsStep on one.result one.step old mid
    × MatchBool (has_failed one.result) ((more ≡ []) × (new ≡ mid)) (PostsAll on more mid new)

-- so many nodes from this number on, but for one
abbrev pub nodes_but : ℕ → ℕ → ℕ → List ℕ
nodes_but node zero from = []
nodes_but node (suc left) from = if nat_eq from node then nodes_but node left (from + 1) else from ∷ nodes_but node left (from + 1)

-- such a step was made for each of these nodes, one after another, until one failed
abbrev pub StepsTo : (ℕ → Step) → List ℕ → List StepMade → Type 0
StepsTo of [] steps = steps ≡ []
StepsTo of (to ∷ others) [] = ⊥
StepsTo of (to ∷ others) (one ∷ more) = (one.step ≡ of to) × MatchBool (has_failed one.result) (more ≡ []) (StepsTo of others more)

-- a node pushed to these
abbrev pub PushesTo : ℕ → List ℕ → List StepMade → Type 0
PushesTo node others steps = StepsTo (step.Push node) others steps

-- A node that is up pushed to each other, in rising order, until a step failed; one that is not did nothing.
pub record PushesAll (nodes : ℕ) (life : NodeLife) (node : ℕ) (steps : List StepMade) : Type 0 where
  pub up : IsUp life → PushesTo node (nodes_but node nodes 1) steps
  pub else_none : (IsUp life → ⊥) → steps ≡ []

-- the other nodes of a set, of those from 1 to so many, in rising order
abbrev pub others_in : ℕ → ℕ → ℕ → List ℕ
others_in node set zero = []
others_in node set (suc k) = others_in node set k ++ (if has set (suc k) && not (nat_eq node (suc k)) then suc k ∷ [] else [])

-- A node reported to each other member of its epoch, in rising order, until a step failed. One that is not up, or has no epoch, did nothing.
abbrev pub ReportsAll : {D : Type 0} → World D → ℕ → List StepMade → Type 0
ReportsAll world node steps = StepsTo (step.Report node) (others_in node (members_seen (node_in (state_of world) node)) 16) steps

-- a step that a regroup at this node makes
abbrev pub IsOfRegroup : ℕ → StepMade → Type 0
IsOfRegroup n one = (one.step ≡ step.Group n) ⊎ (one.step ≡ step.Conclude n) ⊎ IsPost one

abbrev pub AreOfRegroup : ℕ → List StepMade → Type 0
AreOfRegroup n [] = ⊤
AreOfRegroup n (one ∷ more) = IsOfRegroup n one × AreOfRegroup n more

-- this one step was made
abbrev pub MakesOne : {D : Type 0} → View D → Step → List StepMade → World D → World D → Type 0
MakesOne on step steps old new = (result : Result Said StepFault) × (steps ≡ record { step = step; result = result } ∷ []) × IsStep on result step old new
