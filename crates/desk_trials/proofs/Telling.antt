-- Disks in memory tell what they hold.
use Rattle.std.proofs.Common.{◌≡◌, List, [], ◌∷◌, true, refl}
use Rattle.std.specs.Prelude.{is_some}
use Rattle.std.specs.List.{list_all}
use Rattle.node_disk.specs.declared.memory.MemoryDisk.{MemoryDisk}
use Rattle.cluster_trials.specs.Disks.{octets_told}

pub all_told : (disks : List MemoryDisk) → list_all (λ disk. is_some (octets_told disk)) disks ≡ true
all_told [] = refl
all_told (disk ∷ disks) = all_told disks
