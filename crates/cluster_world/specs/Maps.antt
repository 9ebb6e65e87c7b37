-- When a state of the program stands for a world with all that its nodes keep.
use Rattle.std.specs.Prelude.{◌≡◌, ℕ, List, Some}
use Rattle.whole_model.specs.Whole as whole
use Rattle.whole_world.specs.World as whole_world
use Rattle.joint_model.specs.Joint as joint
use Rattle.joint_world.specs.World as joint_world
use Rattle.node_store.specs.Disks.{View}
use Rattle.node_maps.specs.Nodes.{node_of}
use Rattle.whole_node.specs.Nodes.{joint_seen}
use Rattle.whole_node.specs.declared.node.WholeNode.{WholeNode}
use Rattle.cluster_world.specs.Lives.{of_node}
use Rattle.cluster_world.specs.Worlds.{WorldState, StateStandsFor}
use Rattle.cluster_world.specs.declared.life.Life.{Life}
use Rattle.cluster_world.specs.declared.life.Life.TheVariants.{Up}

-- a node that is up has the maps of its slot,
pub record AreMaps (lives : List Life) (slots : List whole.Slot) : Type 0 where
  pub each : (n : ℕ) (node : WholeNode) (slot : whole.Slot) (seen : whole.Node) → of_node lives n ≡ Some (Up node) → whole.slot_at slots n ≡ Some slot → slot.life ≡ whole.Life.Up seen
      → seen.maps ≡ node_of node.maps

-- the tickets of calls that read, and the locks
pub record HasReads (node : WholeNode) (seen : joint.Node) : Type 0 where
  pub reads : seen.reads ≡ (joint_seen node).reads
  pub locks : seen.locks ≡ (joint_seen node).locks

pub record AreReads (lives : List Life) (slots : List joint.Slot) : Type 0 where
  pub each : (n : ℕ) (node : WholeNode) (slot : joint.Slot) (seen : joint.Node) → of_node lives n ≡ Some (Up node) → joint.slot_at slots n ≡ Some slot → slot.life ≡ joint.Life.Up seen
      → HasReads node seen

-- It stands for what messages see of the world, and has its maps.
pub record StandsForWhole {D : Type 0} (on : View D) (state : WorldState D) (v : whole_world.World) : Type 0 where
  pub mail : StateStandsFor on state (whole_world.mail_world_of v)
  pub maps : AreMaps state.lives v.slots

-- It stands for what messages see of the world, and has its maps, its tickets of calls that read and its locks.
pub record StandsForAll {D : Type 0} (on : View D) (state : WorldState D) (v : joint_world.World) : Type 0 where
  pub mail : StateStandsFor on state (joint_world.mail_world_of v)
  pub maps : AreMaps state.lives (joint_world.whole_world_of v).slots
  pub reads : AreReads state.lives v.slots
