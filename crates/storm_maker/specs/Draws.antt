-- The draws of a storm: one word of the generator after another.
use Rattle.std.specs.Prelude.{ℕ, ◌+◌, ◌%◌, nat_eq, Option, Some, None, if◌then◌else◌}
use Rattle.rand_pcg.specs.Lcg.{Lcg, started, increment_of}
use Rattle.rand_pcg.specs.Pcg.{multiplier_64, pcg32}

-- the generator of a storm: XSH RR 64/32, begun at the number on stream 54
abbrev pub draws_of : ℕ → Lcg
draws_of number = started 64 multiplier_64 number (increment_of 64 54)

-- the next word modulo m, and what can be drawn after it
abbrev pub pick : ℕ → Lcg → ℕ × Lcg
pick m draws = ((pcg32 draws).0 % m, (pcg32 draws).1)

-- the node itself, or the next in the circle of five where it is the one that is down
abbrev pub passed : Option ℕ → ℕ → ℕ
passed None node = node
passed (Some down) node = if nat_eq node down then node % 5 + 1 else node

-- a node that is up
abbrev pub up : Option ℕ → Lcg → ℕ × Lcg
up down draws = (passed down ((pick 5 draws).0 + 1), (pick 5 draws).1)
