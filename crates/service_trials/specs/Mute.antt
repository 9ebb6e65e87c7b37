-- The images of a disk that tells nothing.
use Rattle.std.specs.Prelude.{⊤}
use Rattle.io_edge.specs.Moments.{Clock}

-- any octets may be left, at each moment
abbrev pub untold_clock : {D : Type 0} → Clock D
untold_clock = record { is_image = λ _ _. ⊤; moment = λ _. 0; was_image = λ _ _ _. ⊤ }
