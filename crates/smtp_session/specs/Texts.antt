-- A text so far: its octets, or that it has passed the limit and they were let go.
use Rattle.std.specs.Prelude.{◌≡◌, ℕ, ◌<◌, ◌≤◌, Bool, false, List, [], ◌++◌, length, MatchBool}

-- these octets were given to it
abbrev pub IsGivenText : List ℕ × Bool → List ℕ → Type 0
IsGivenText text given = MatchBool text.1 ((text.0 ≡ []) × (16777216 < length given)) (text.0 ≡ given)

-- these octets more were given to it, which are kept where none were let go
abbrev pub Grows : List ℕ × Bool → List ℕ → List ℕ × Bool → Type 0
Grows old more new = MatchBool old.1 (new ≡ old) (new ≡ (old.0 ++ more, false))

-- it is still the text of what was given to it, and no more than the limit is kept
pub record SettlesText (old new : List ℕ × Bool) : Type 0 where
  pub short : length new.0 ≤ 16777216
  pub is : (given : List ℕ) → IsGivenText old given → IsGivenText new given
