-- What a disk holds after a write, and what a sink holds after a piece.
use Rattle.std.specs.Prelude.{◌≡◌, ℕ, ◌+◌, ◌≤◌, ◌<◌, max, List, ◌++◌, length, take, drop, is_some, Option, Some, None, MatchOption, Result, Ok, Err}
use Rattle.std.specs.Io.KnownBytes.{Appends}

-- new is old with these octets at this offset
abbrev pub Holds : List ℕ → ℕ → List ℕ → List ℕ → Type 0
Holds old at octets new = new ≡ take at old ++ octets ++ drop (at + length octets) old

-- after a write of n octets that failed: any octets in the range and past the old end, the same elsewhere
pub record Torn (at n : ℕ) (old new : List ℕ) : Type 0 where
  pub before : take at new ≡ take at old
  pub after : drop (at + n) new ≡ drop (at + n) old
  pub no_shorter : length old ≤ length new
  pub no_longer : length new ≤ max (length old) (at + n)

-- whether the octets are told has not changed
abbrev pub IsToldAlike : Option (List ℕ) → Option (List ℕ) → Type 0
IsToldAlike old new = is_some new ≡ is_some old

-- the write was done, or it failed and may have left anything in its range; content that is not told stays untold
abbrev pub WritesAt : {E : Type 0} → Option (List ℕ) → Option (List ℕ) → Result (Unit {0}) E → ℕ → List ℕ → Type 0
WritesAt old new (Ok _) at octets = MatchOption old (new ≡ None) (λ held. (now : List ℕ) × (new ≡ Some now) × Holds held at octets now)
WritesAt old new (Err _) at octets = MatchOption old (new ≡ None) (λ held. (now : List ℕ) × (new ≡ Some now) × Torn at (length octets) held now)

-- all of the piece was appended, or at a fault a prefix of it that is not the whole
abbrev pub Writes : {E : Type 0} → Option (List ℕ) → Option (List ℕ) → Result (Unit {0}) E → List ℕ → Type 0
Writes old new (Ok _) piece = Appends old new piece
Writes old new (Err _) piece = (front : List ℕ) × (missing : List ℕ) × (0 < length missing) × (piece ≡ front ++ missing) × Appends old new front
