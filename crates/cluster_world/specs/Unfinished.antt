-- What is said where a node did not do its work, or did not end it, and what the book has of it.
use Rattle.std.specs.Prelude.{ℕ, Bool, List, [], ◌∷◌, true, false, Some, None, Result, Ok, Err, if◌then◌else◌}
use Rattle.node_core.specs.declared.fault.NodeFault.{NodeFault}
use Rattle.node_core.specs.declared.fault.NodeFault.TheVariants.{Disk, Worn, NoMemory}
use Rattle.world_book.specs.declared.entry.Entry.{Entry}
use Rattle.world_book.specs.declared.entry.Entry.TheVariants as entry
use Rattle.cluster_world.specs.declared.step.Said.{Said}
use Rattle.cluster_world.specs.declared.step.Said.TheVariants.{Faulted}
use Rattle.cluster_world.specs.declared.fault.StepFault.{StepFault}
use Rattle.cluster_world.specs.declared.fault.StepFault.TheVariants as fault

abbrev pub said_of_fault : ℕ → NodeFault → Result Said StepFault
said_of_fault n Disk = Ok (Faulted n)
said_of_fault n Worn = Err fault.Worn
said_of_fault n (NoMemory true) = Err (fault.NoMemory (Some n))
said_of_fault n (NoMemory false) = Err (fault.NoMemory None)

-- whether the node goes down by it
abbrev pub takes_down : NodeFault → Bool
takes_down Disk = true
takes_down Worn = false
takes_down (NoMemory down) = down

-- the book has it where the node went down
abbrev pub entries_of_fault : ℕ → NodeFault → List Entry
entries_of_fault n fault = if takes_down fault then entry.Down n ∷ [] else []
