-- What a plain disk tells.
use Rattle.std.specs.Prelude.{ℕ, List, Option, Some}
use Rattle.io_edge.specs.Plain.{plain_clock}
use Rattle.io_edge.specs.declared.plain_disk.PlainDisk.{PlainDisk}
use Rattle.node_store.specs.Disks.{View, view_of}

-- what it holds
abbrev pub octets_told : PlainDisk → Option (List ℕ)
octets_told disk = Some disk.octets.items

-- it has no faults
abbrev pub plainly : View PlainDisk
plainly = view_of octets_told (λ disk. 0) plain_clock
