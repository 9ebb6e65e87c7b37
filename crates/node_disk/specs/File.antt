-- The images of a disk that tells nothing.
use Rattle.std.specs.Prelude.{⊤}
use Rattle.io_edge.specs.Moments.{Clock}
use Rattle.node_disk.specs.declared.file.FileDisk.{FileDisk}

-- any octets may be left, at each moment
abbrev pub file_clock : Clock FileDisk
file_clock = record { is_image = λ _ _. ⊤; moment = λ _. 0; was_image = λ _ _ _. ⊤ }
