-- Lists: what they weigh, which is a prefix of another, which stands in another in its order.
use Rattle.std.specs.Prelude.{◌≡◌, ◌⊎◌, ℕ, ◌+◌, List, [], ◌∷◌, ◌++◌, length, cond, nat_le}

module _ {X : Type 0} where
  -- the weights of the items, added up
  abbrev pub weight : (X → ℕ) → List X → ℕ
  weight h [] = 0
  weight h (x ∷ xs) = h x + weight h xs

  -- the second list begins with the first
  abbrev pub IsPrefix : List X → List X → Type 0
  IsPrefix xs ys = (rest : List X) × (ys ≡ xs ++ rest)

  abbrev pub longer : List X → List X → List X
  longer xs ys = cond (nat_le (length xs) (length ys)) ys xs

  -- the items of the first stand in the second, in their order
  abbrev pub IsSubsequence : List X → List X → Type 0
  IsSubsequence [] ys = Unit {0}
  IsSubsequence (x ∷ xs) [] = ⊥
  IsSubsequence (x ∷ xs) (y ∷ ys) = ((x ≡ y) × IsSubsequence xs ys) ⊎ IsSubsequence (x ∷ xs) ys

  abbrev pub AreSubsequences : List (List X) → List X → Type 0
  AreSubsequences [] ys = Unit {0}
  AreSubsequences (xs ∷ xss) ys = IsSubsequence xs ys × AreSubsequences xss ys
