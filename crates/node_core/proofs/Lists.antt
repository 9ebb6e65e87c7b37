-- What holds of each element of a list, in a loop over it.
use Rattle.std.proofs.Common.{◌≡◌, ◌<◌, ℕ, ◌+◌, List, [], ◌∷◌, ◌++◌, length, take, get_or, sym, ap, ◌∙◌, subst}
use Rattle.std.specs.Prelude.{All}
use Rattle.std.proofs.Math.Seq.{take-length}
use Rattle.std.proofs.lemmas.List.{take_more}
use Rattle.std.proofs.lemmas.List.Elements.{All-nil, All-cons, All-append}

-- one element more
pub one_more_all : {X : Type 0} (P : X → Type 0) (xs : List X) (i : ℕ) (x : X) → i < length xs → x ≡ get_or xs i x → All P (take i xs) → P x → All P (take (i + 1) xs)
one_more_all {X} P xs i x within is all one =
    subst (All P) (sym (take_more xs i x within ∙ ap (λ (y : X). take i xs ++ y ∷ []) (sym is))) (All-append P (take i xs) (x ∷ []) all (All-cons P x [] one (All-nil P)))

pub all_of_taken : {X : Type 0} (P : X → Type 0) (xs : List X) (i : ℕ) → i ≡ length xs → All P (take i xs) → All P xs
all_of_taken {X} P xs i all taken = subst (All P) (ap (λ (n : ℕ). take n xs) all ∙ take-length xs) taken
