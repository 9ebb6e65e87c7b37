-- What becomes of tickets of calls that read, and of locks, in a step that is none of calls that read.
use Rattle.std.specs.Prelude.{◌≡◌, ℕ, List, [], Some}
use Rattle.joint_model.specs.Joint as joint
use Rattle.joint_world.specs.Staying.{KeepsReads}
use Rattle.whole_node.specs.Nodes.{joint_seen}
use Rattle.whole_node.specs.declared.node.WholeNode.{WholeNode}
use Rattle.cluster_world.specs.Lives.{of_node}
use Rattle.cluster_world.specs.declared.life.Life.{Life}
use Rattle.cluster_world.specs.declared.life.Life.TheVariants.{Up, Down, Lost}

-- a life of the program in the machine's words; what is pending on a disk does not matter here
abbrev pub joint_life : Life → joint.Life
joint_life (Up node) = joint.Life.Up (joint_seen node)
joint_life Down = joint.Life.Down []
joint_life Lost = joint.Life.Lost

-- A node that stays up keeps its tickets, and its locks as long as it keeps its epoch. One that starts has none of both.
pub record ReadsKept (old new : List Life) : Type 0 where
  pub each : (n : ℕ) (life : Life) (node : WholeNode) → of_node old n ≡ Some life → of_node new n ≡ Some (Up node) → KeepsReads (joint_life life) (joint_seen node)

-- a node has the tickets of calls that read, and the locks, of another
pub record HasSameReads (old new : WholeNode) : Type 0 where
  pub reads : (joint_seen new).reads ≡ (joint_seen old).reads
  pub locks : (joint_seen new).locks ≡ (joint_seen old).locks
