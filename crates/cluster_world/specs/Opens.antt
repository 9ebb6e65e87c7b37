-- A world that is opened over empty disks.
use Rattle.std.specs.Prelude.{◌≡◌, ℕ, suc, ◌+◌, ◌≤◌, List, [], ◌∷◌, ◌++◌, Option, Some, IfSome, length, slice_get, slice_set, ⊤, Result, Ok, Err}
use Rattle.io_edge.specs.Causes.{Rose}
use Rattle.io_edge.specs.Octets.{IsToldAlike}
use Rattle.mail_model.specs.Plan.{Plan}
use Rattle.node_store.specs.Disks.{View}
use Rattle.whole_node.specs.declared.node.WholeNode.{WholeNode}
use Rattle.joint_world.specs.First.{first_world}
use Rattle.whole_node.specs.Starting.{first_map, IsFirstWhole}
use Rattle.cluster_world.specs.Lives.{of_node}
use Rattle.cluster_world.specs.Worlds.{state_of, plan_of, lives_of, disks_of, steps_of, CanMakeSteps}
use Rattle.cluster_world.specs.Installs.{installs_of}
use Rattle.cluster_world.specs.Maps.{StandsForAll}
use Rattle.cluster_world.specs.Steps.{AreSettled}
use Rattle.cluster_world.specs.declared.life.Life.{Life}
use Rattle.cluster_world.specs.declared.life.Life.TheVariants.{Up}
use Rattle.cluster_world.specs.declared.world.World.{World}
use Rattle.cluster_world.specs.declared.fault.OpenFault.{OpenFault}
use Rattle.cluster_world.specs.declared.fault.OpenFault.TheVariants.{DiskFault, NoMemory}

-- a plan that a cluster can be opened for
pub record CanBeOpened (plan : Plan) : Type 0 where
  pub some : 1 ≤ plan.nodes
  pub few : plan.nodes ≤ 16
  pub confirmed : 1 ≤ plan.confirm
  pub copied : plan.confirm ≤ plan.copies
  pub spread : plan.copies ≤ plan.nodes
  pub bucketed : 1 ≤ plan.buckets

-- each disk is empty, where it tells what it holds
pub record AreEmpty {D : Type 0} (seen : D → Option (List ℕ)) (disks : List D) : Type 0 where
  pub each : (k : ℕ) (disk : D) → slice_get disks k ≡ Some disk → IfSome (seen disk) (λ held. held ≡ [])

-- the disks are those that were handed in, as many, told as before
pub record AreHandedOn {D : Type 0} (seen : D → Option (List ℕ)) (old new : List D) : Type 0 where
  pub count : length new ≡ length old
  pub told : (k : ℕ) (disk disk' : D) → slice_get old k ≡ Some disk → slice_get new k ≡ Some disk' → IsToldAlike (seen disk) (seen disk')

-- The world is where a cluster begins: each node is up in its first boot and in the first epoch, which its disk promised, nothing has been done, and the book has no epoch that was installed.
pub record IsAtBeginning {D : Type 0} (on : View D) (plan : Plan) (world : World D) : Type 0 where
  pub plan_is : plan_of world ≡ plan
  pub some : 1 ≤ plan.nodes
  pub steps : steps_of world ≡ 0
  pub stands : StandsForAll on (state_of world) (first_world plan.nodes (first_map plan))
  pub ready : CanMakeSteps on.seen world
  pub installs : installs_of world ≡ []

-- a world was opened over the disks of its plan
pub record Opened {D : Type 0} (on : View D) (is_settled : D → Type 0) (plan : Plan) (disks : List D) (world : World D) : Type 0 where
  pub begins : IsAtBeginning on plan world
  pub handed : AreHandedOn on.seen disks (disks_of world)
  pub quiet : (k : ℕ) (disk disk' : D) → slice_get disks k ≡ Some disk → slice_get (disks_of world) k ≡ Some disk' → on.faults disk' ≡ on.faults disk
  pub settled : AreSettled is_settled (state_of world)

-- why it was not
abbrev pub OpenFails : {D : Type 0} → (D → ℕ) → OpenFault → List D → List D → Type 0
OpenFails {D} faults (DiskFault node) old new = (disk : D) × (disk' : D) × (of_node old node ≡ Some disk) × (of_node new node ≡ Some disk') × Rose (faults disk) (faults disk')
OpenFails faults NoMemory old new = ⊤

-- it was not, and the disks are handed back
pub record Refused {D : Type 0} (on : View D) (fault : OpenFault) (old new : List D) : Type 0 where
  pub handed : AreHandedOn on.seen old new
  pub later : (k : ℕ) (disk disk' : D) → slice_get old k ≡ Some disk → slice_get new k ≡ Some disk' → on.faults disk ≤ on.faults disk'
  pub cause : OpenFails on.faults fault old new

module _ {D : Type 0} (on : View D) (is_settled : D → Type 0) (plan : Plan) where
  -- node n is up in its first boot and in the first epoch, and its disk has the records of both alone
  pub record IsOpenedOn (n : ℕ) (life : Life) (before after : D) : Type 0 where
    pub node : WholeNode
    pub is : life ≡ Up node
    pub first : IsFirstWhole on plan n before after node
    pub settled : is_settled after
    pub told : IsToldAlike (on.seen before) (on.seen after)

  -- it is, or it failed
  abbrev pub OpensSo : ℕ → Result Life OpenFault → D → D → Type 0
  OpensSo n (Ok life) before after = IsOpenedOn n life before after
  OpensSo n (Err (DiskFault node)) before after = (node ≡ n) × Rose (on.faults before) (on.faults after)
  OpensSo n (Err NoMemory) before after = ⊤

  -- the next node is up, or that failed
  abbrev pub NextComes : Result (Unit {0}) OpenFault → List Life → List Life → D → D → Type 0
  NextComes (Ok _) lives lives' disk disk' = (life : Life) × (lives' ≡ lives ++ life ∷ []) × IsOpenedOn (length lives + 1) life disk disk'
  NextComes (Err (DiskFault node)) lives lives' disk disk' = (node ≡ length lives + 1) × Rose (on.faults disk) (on.faults disk')
  NextComes (Err NoMemory) lives lives' disk disk' = ⊤

  -- the next node was to start on its disk
  pub record OpensNext (result : Result (Unit {0}) OpenFault) (lives : List Life) (old : List D) (lives' : List Life) (new : List D) : Type 0 where
    pub disk : D
    pub disk' : D
    pub here : slice_get old (length lives) ≡ Some disk
    pub becomes : new ≡ slice_set old (length lives) disk'
    pub told : IsToldAlike (on.seen disk) (on.seen disk')
    pub later : on.faults disk ≤ on.faults disk'
    pub comes : NextComes result lives lives' disk disk'

  -- the first nodes are up, and the other disks are as they were
  pub record AreOpened (lives : List Life) (old new : List D) : Type 0 where
    pub handed : length new ≡ length old
    pub each : (k : ℕ) (life : Life) (disk disk' : D) → slice_get lives k ≡ Some life → slice_get old k ≡ Some disk → slice_get new k ≡ Some disk' → IsOpenedOn (suc k) life disk disk'
    pub rest : (k : ℕ) → length lives ≤ k → slice_get new k ≡ slice_get old k

  -- all are, or the disks are handed back
  abbrev pub AllOpen : Result (Unit {0}) OpenFault → List Life → List D → List D → Type 0
  AllOpen (Ok _) lives old new = AreOpened lives old new × (length lives ≡ length old)
  AllOpen (Err fault) lives old new = Refused on fault old new
