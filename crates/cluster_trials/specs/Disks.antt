-- What a disk in memory tells.
use Rattle.std.specs.Prelude.{ℕ, List, Option, Some}
use Rattle.node_store.specs.Disks.{View, view_of}
use Rattle.node_disk.specs.Memory.{memory_clock}
use Rattle.node_disk.specs.declared.memory.MemoryDisk.{MemoryDisk}

-- what it holds
abbrev pub octets_told : MemoryDisk → Option (List ℕ)
octets_told disk = Some disk.held.octets.items

abbrev pub in_memory : View MemoryDisk
in_memory = view_of octets_told (λ disk. disk.faults) memory_clock
