-- What a contract knows of a disk.
use Rattle.std.specs.Prelude.{ℕ, List, Option}
use Rattle.io_edge.specs.Moments.{Clock}

-- what it tells, how often it has failed, and what a stop of the machine may leave of it
pub record View (D : Type 0) : Type 1 where
  pub seen : D → Option (List ℕ)
  pub faults : D → ℕ
  pub clock : Clock D

abbrev pub view_of : {D : Type 0} → (D → Option (List ℕ)) → (D → ℕ) → Clock D → View D
view_of seen faults clock = record { seen = seen; faults = faults; clock = clock }
