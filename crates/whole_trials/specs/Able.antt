-- A node of a trial is up over its disk, or down.
use Rattle.std.specs.Prelude.{ℕ, true, false, List, ⊤, Option, Some, None, Result, Ok, Err}
use Rattle.node_disk.specs.declared.memory.MemoryDisk.{MemoryDisk}
use Rattle.node_core.specs.declared.fault.NodeFault.{NodeFault}
use Rattle.node_core.specs.declared.fault.NodeFault.TheVariants.{Disk, Worn, NoMemory}
use Rattle.whole_node.specs.Nodes.{WholeWorks}
use Rattle.whole_node.specs.declared.node.WholeNode.{WholeNode}

-- what a disk in memory tells
abbrev pub octets_told : MemoryDisk → Option (List ℕ)
octets_told disk = Some disk.held.octets.items

-- whoever is up can work over a disk that tells this
abbrev pub IsAble : Option (List ℕ) → Option WholeNode → Type 0
IsAble seen None = ⊤
IsAble seen (Some node) = WholeWorks seen node

-- a call whose work stopped takes the node down
abbrev pub left_by : {T : Type 0} → Result T NodeFault → WholeNode → Option WholeNode
left_by (Ok _) node = Some node
left_by (Err Disk) node = None
left_by (Err Worn) node = Some node
left_by (Err (NoMemory true)) node = None
left_by (Err (NoMemory false)) node = Some node

-- so it is over some disk
abbrev pub IsAbleOver : Option WholeNode → Type 0
IsAbleOver node = (seen : Option (List ℕ)) × IsAble seen node
