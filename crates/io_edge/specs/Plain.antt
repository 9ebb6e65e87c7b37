-- The images of a disk on which each write is done at once.
use Rattle.std.specs.Prelude.{◌≡◌}
use Rattle.io_edge.specs.Moments.{Clock}
use Rattle.io_edge.specs.declared.plain_disk.PlainDisk.{PlainDisk}

-- its one image is what reads give; of earlier moments it tells nothing
abbrev pub plain_clock : Clock PlainDisk
plain_clock = record { is_image = λ d c. c ≡ d.octets.items; moment = λ _. 0; was_image = λ d _ c. c ≡ d.octets.items }
