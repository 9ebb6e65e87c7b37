-- A node that was called is able, or down.
use Rattle.std.proofs.Common.{ℕ, List, true, false, Option}
use Rattle.std.specs.Prelude.{Result, Ok, Err}
use Rattle.node_core.specs.Works.{LeavesUp}
use Rattle.node_core.specs.declared.fault.NodeFault.{NodeFault}
use Rattle.node_core.specs.declared.fault.NodeFault.TheVariants.{Disk, Worn, NoMemory}
use Rattle.whole_node.specs.Nodes.{WholeWorks}
use Rattle.whole_node.specs.declared.node.WholeNode.{WholeNode}
use Rattle.whole_trials.specs.Able.{IsAble, left_by}

pub able_left : {T : Type 0} (seen : Option (List ℕ)) (result : Result T NodeFault) (node : WholeNode) → (LeavesUp result → WholeWorks seen node) → IsAble seen (left_by result node)
able_left seen (Ok done) node works = works tt
able_left seen (Err Disk) node works = tt
able_left seen (Err Worn) node works = works tt
able_left seen (Err (NoMemory true)) node works = tt
able_left seen (Err (NoMemory false)) node works = works tt
