-- The nodes of a set: none is above 16.
use Rattle.std.proofs.Common.{◌≡◌, ◌+◌, ◌<◌, ◌≤◌, ◌^◌, ◌&&◌, not, nat_eq, nat_lt, ℕ, zero, suc, Bool, true, false, cond, List, [], ◌∷◌, ◌++◌, refl, sym, ap, ◌∙◌, arith}
use Rattle.std.proofs.lemmas.Nat.Bits.{bit_at_above}
use Rattle.object_model.specs.Sets.{has}
use Rattle.cluster_model.specs.Rules.{receivers}

-- only the nodes 1 to 16 stand in a set
has_above : (mask k : ℕ) → mask < 2 ^ 16 → 16 ≤ k → has mask (suc k) ≡ false
has_above mask k few above = ap (λ (n : ℕ). nat_lt k 64 && nat_eq n 1) (bit_at_above mask 16 k few above) ∙ low (nat_lt k 64)
  where
    low : (b : Bool) → (b && false) ≡ false
    low true = refl
    low false = refl

none_more : (own mask k : ℕ) → mask < 2 ^ 16 → 16 ≤ k → receivers own mask (suc k) ≡ receivers own mask k
none_more own mask k few above = ap (λ (b : Bool). receivers own mask k ++ cond (b && not (nat_eq (suc k) own)) (suc k ∷ []) []) (has_above mask k few above) ∙ nothing (receivers own mask k)
  where
    nothing : (xs : List ℕ) → xs ++ [] ≡ xs
    nothing [] = refl
    nothing (x ∷ xs) = ap (λ (l : List ℕ). x ∷ l) (nothing xs)

up_to : (own mask j : ℕ) → mask < 2 ^ 16 → receivers own mask (j + 16) ≡ receivers own mask 16
up_to own mask zero few = refl
up_to own mask (suc j) few = let e : suc j + 16 ≡ suc (j + 16) = omega arith in rw e (none_more own mask (j + 16) few (omega arith) ∙ up_to own mask j few)

pub receivers_few : (own mask : ℕ) → mask < 2 ^ 16 → receivers own mask 16 ≡ receivers own mask 64
receivers_few own mask few = sym (up_to own mask 48 few)
