-- What a call of a node that is up makes of its life and its disk.
use Rattle.std.specs.Prelude.{◌≡◌, ℕ, List, true, false, Option, Result, Ok, Err}
use Rattle.joint_model.specs.Joint as joint
use Rattle.joint_world.specs.Staying.{KeepsReads}
use Rattle.node_core.specs.Works.{LeavesUp}
use Rattle.node_core.specs.declared.fault.NodeFault.{NodeFault}
use Rattle.node_core.specs.declared.fault.NodeFault.TheVariants.{Disk, Worn, NoMemory}
use Rattle.node_core.specs.declared.node.Node.{Node}
use Rattle.whole_node.specs.Nodes.{joint_seen, WholeWorks}
use Rattle.whole_node.specs.declared.node.WholeNode.{WholeNode}
use Rattle.cluster_world.specs.declared.life.Life.{Life}
use Rattle.cluster_world.specs.declared.life.Life.TheVariants.{Up, Down}

-- the node stays up, or goes down where its work stopped
abbrev pub life_left : {T : Type 0} → Result T NodeFault → WholeNode → Life
life_left (Ok _) node = Up node
life_left (Err Disk) node = Down
life_left (Err Worn) node = Up node
life_left (Err (NoMemory true)) node = Down
life_left (Err (NoMemory false)) node = Up node

-- A node that is up did this for messages, and its maps are so. Its tickets of calls that read stay, and so do its locks in its epoch. It can work with its disk where it may stay up.
pub record TurnsBy {T D : Type 0} (seen : D → Option (List ℕ)) (Did : Result T NodeFault → Node → D → Node → D → Type 0) (Maps : Result T NodeFault → WholeNode → D → WholeNode → D → Type 0)
    (result : Result T NodeFault) (life : Life) (before : D) (life' : Life) (after : D) : Type 0 where
  pub old : WholeNode
  pub new : WholeNode
  pub was : life ≡ Up old
  pub did : Did result old.mail before new.mail after
  pub maps : Maps result old before new after
  pub beside : LeavesUp result → KeepsReads (joint.Life.Up (joint_seen old)) (joint_seen new)
  pub is : life' ≡ life_left result new
  pub works : LeavesUp result → WholeWorks (seen after) new
