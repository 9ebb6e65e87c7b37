-- Whose each entry of a history is: the entries of one author, and lists that share a history out.
use Rattle.std.specs.Prelude.{◌≡◌, ℕ, ◌<◌, List, [], ◌∷◌, map, length, cond, nat_eq}
use mathlib.Core.Option.{some}
use lib.ListN.{get_elem?}

-- no number stands in it twice
abbrev pub AllApart : List ℕ → Type 0
AllApart ks = (p q k : ℕ) → get_elem? ks p ≡ some k → get_elem? ks q ≡ some k → p ≡ q

module _ {X : Type 0} where
  -- the items whose author is k
  abbrev pub written_by : ℕ → List ℕ → List X → List X
  written_by k [] xs = []
  written_by k (a ∷ bs) [] = []
  written_by k (a ∷ bs) (x ∷ xs) = cond (nat_eq a k) (x ∷ written_by k bs xs) (written_by k bs xs)

  -- the history is shared out: each entry has an author, and each of the lists is what one author wrote, each another's. Author 0 wrote the opening.
  pub record AreShares (opening : List X) (lists : List (List X)) (history : List X) : Type 0 where
    pub authors : List ℕ
    pub one_each : length authors ≡ length history
    pub opening_is : written_by 0 authors history ≡ opening
    pub names : List ℕ
    pub lists_are : map (λ k. written_by k authors history) names ≡ lists
    pub names_apart : AllApart names
    pub not_opening : (p k : ℕ) → get_elem? names p ≡ some k → 0 < k
