-- What posting all letters does.
use Rattle.std.specs.Prelude.{◌≡◌, ◌≤◌, ℕ, false, List, [], ◌∷◌, ◌++◌, Option, Some, None, ⊤, Result, Ok, Err}
use Rattle.object_model.specs.Lists.{Among}
use Rattle.cluster_model.specs.Room.{Flight}
use Rattle.node_store.specs.Disks.{View}
use Rattle.cluster_world.specs.Made.{StepMade, IsPost, PostsAll}
use Rattle.cluster_world.specs.Steps.{IsStep}
use Rattle.cluster_world.specs.Worlds.{state_of}
use Rattle.cluster_world.specs.declared.world.World.{World}
use Rattle.cluster_world.specs.declared.step.Step.TheVariants as step
use Rattle.cluster_world.specs.declared.step.Said.{Said}
use Rattle.cluster_world.specs.declared.step.Said.TheVariants.{Heard, Thrown, Faulted}
use Rattle.cluster_world.specs.declared.fault.StepFault.{StepFault}

-- a letter was posted, and its receiver goes on
abbrev pub IsDelivered : Result Said StepFault → Type 0
IsDelivered (Ok Heard) = ⊤
IsDelivered (Ok (Thrown why)) = ⊤
IsDelivered result = ⊥

-- each of these letters was
abbrev pub AllDelivered : List StepMade → Type 0
AllDelivered [] = ⊤
AllDelivered (one ∷ more) = IsPost one × IsDelivered one.result × AllDelivered more

-- All of them were, and none is in flight; or the last of them took its receiver down, or was refused.
abbrev pub FlowsSo : Result (Option ℕ) StepFault → List StepMade → Type 0
FlowsSo (Ok None) steps = AllDelivered steps
FlowsSo (Ok (Some node)) steps = (front : List StepMade) × (one : StepMade) × (steps ≡ front ++ one ∷ []) × AllDelivered front × IsPost one × (one.result ≡ Ok (Faulted node))
FlowsSo (Err why) steps = (front : List StepMade) × (one : StepMade) × (steps ≡ front ++ one ∷ []) × AllDelivered front × IsPost one × (one.result ≡ Err why)

-- no letter in flight has a lower number
pub record IsLowest (letter : ℕ) (flights : List Flight) : Type 0 where
  pub flight : Flight
  pub flies : Among flight flights
  pub is : flight.number ≡ letter
  pub least : (other : Flight) → Among other flights → letter ≤ other.number

-- letters were posted, each time the one of the lowest number
abbrev pub PostsLowest : {D : Type 0} → View D → List StepMade → World D → World D → Type 0
PostsLowest on [] old new = new ≡ old
PostsLowest {D} on (one ∷ more) old new =
    (letter : ℕ) × (mid : World D) × IsLowest letter (state_of old).flying.flights × (one.step ≡ step.Post letter false) × IsStep on one.result one.step old mid × PostsLowest on more mid new

-- the letters were posted, the lowest number first
pub record HasFlowed {D : Type 0} (on : View D) (result : Result (Option ℕ) StepFault) (old new : World D) : Type 0 where
  pub steps : List StepMade
  pub made : PostsAll on steps old new
  pub lowest : PostsLowest on steps old new
  pub flows : FlowsSo result steps
