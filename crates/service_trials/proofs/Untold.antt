-- A write to a disk that tells nothing.
use Rattle.std.proofs.Common.{inl, refl, ℕ, arith}
use Rattle.io_edge.specs.Moments.{Tears}
use Rattle.service_trials.specs.Mute.{untold_clock}

-- whatever was written, any octets may be left
pub untold_tears : {D : Type 0} (old new : D) (at n : ℕ) → Tears untold_clock old new at n
untold_tears {D} old new at n = record {
  later = omega arith;
  since = λ t c le was. inl tt;
  now = λ c is. record { base = c; was = tt; torn = record { before = refl; after = refl; no_shorter = omega arith; no_longer = omega arith } };
}
