-- What a start makes of the life of a node and of its disk, and what is said of it.
use Rattle.std.specs.Prelude.{◌≡◌, ◌≤◌, ℕ, List, [], ◌∷◌, IfOk, Result, Ok, Err}
use Rattle.io_edge.specs.Octets.{IsToldAlike}
use Rattle.mail_model.specs.Plan.{Plan}
use Rattle.cluster_model.specs.Steps.{greatest_boot}
use Rattle.joint_model.specs.Joint as joint
use Rattle.joint_world.specs.Staying.{KeepsReads}
use Rattle.node_store.specs.Disks.{View}
use Rattle.node_core.specs.Nodes.{node_seen}
use Rattle.node_core.specs.Starting.{NodeStarts}
use Rattle.node_core.specs.declared.fault.NodeFault.{NodeFault}
use Rattle.whole_node.specs.Nodes.{joint_seen}
use Rattle.whole_node.specs.Restarting.{WholeNodeStarted}
use Rattle.whole_node.specs.declared.node.WholeNode.{WholeNode}
use Rattle.world_book.specs.declared.entry.Entry.{Entry}
use Rattle.world_book.specs.declared.entry.Entry.TheVariants as entry
use Rattle.cluster_world.specs.declared.life.Life.{Life}
use Rattle.cluster_world.specs.declared.life.Life.TheVariants.{Up, Down}
use Rattle.cluster_world.specs.declared.step.Said.{Said}
use Rattle.cluster_world.specs.declared.step.Said.TheVariants as said
use Rattle.cluster_world.specs.declared.fault.StepFault.{StepFault}
use Rattle.cluster_world.specs.Unfinished.{said_of_fault, entries_of_fault}

-- what is said of a start that came to this
abbrev pub said_of_start : ℕ → Result ℕ NodeFault → Result Said StepFault
said_of_start n (Ok boot) = Ok (said.NodeUp boot)
said_of_start n (Err why) = said_of_fault n why

-- and what the book has of it
abbrev pub entries_of_start : ℕ → Result ℕ NodeFault → List Entry
entries_of_start n (Ok boot) = entry.Up n boot ∷ []
entries_of_start n (Err why) = entries_of_fault n why

-- a node is up in this boot, with no tickets of calls that read and no locks
pub record IsUpIn (boot : ℕ) (node : WholeNode) (life : Life) : Type 0 where
  pub is : life ≡ Up node
  pub boot_is : boot ≡ (node_seen node.mail).boot
  pub small : boot ≤ greatest_boot
  pub fresh : KeepsReads (joint.Life.Down []) (joint_seen node)

module _ {D : Type 0} (on : View D) (plan : Plan) (n : ℕ) where
  -- the node is up, or still down
  abbrev pub ComesToThis : Result ℕ NodeFault → D → Life → D → Type 0
  ComesToThis (Ok boot) disk life' disk' = (node : WholeNode) × IsUpIn boot node life' × WholeNodeStarted on plan n disk disk' node
  ComesToThis (Err why) disk life' disk' = (life' ≡ Down) × NodeStarts on plan n disk disk' (Err why)

  -- a node that was down was to start
  pub record HasStarted (is_settled : D → Type 0) (result : Result ℕ NodeFault) (life : Life) (disk : D) (life' : Life) (disk' : D) : Type 0 where
    pub was : life ≡ Down
    pub comes : ComesToThis result disk life' disk'
    pub told : IsToldAlike (on.seen disk) (on.seen disk')
    pub faults : on.faults disk ≤ on.faults disk'
    pub settled : IfOk result (λ boot. is_settled disk')
