-- Disks that are empty, and one more.
use Rattle.std.proofs.Common.{◌≡◌, ℕ, zero, suc, List, [], ◌∷◌, ◌++◌, Option, Some, subst, arith}
use Rattle.std.specs.Prelude.{IfSome, slice_get}
use Rattle.std.proofs.lemmas.Option.{slice_get_within}
use Rattle.cluster_world.specs.Opens.{AreEmpty}

some_same : {A : Type 0} (a b : A) → Some a ≡ Some b → a ≡ b
some_same a b e = cc

one_more : {D : Type 0} (seen : D → Option (List ℕ)) (disks : List D) (one : D) → AreEmpty seen disks → IfSome (seen one) (λ held. held ≡ []) → (k : ℕ) (disk : D) → slice_get (disks ++ one ∷ []) k ≡ Some disk → IfSome (seen disk) (λ held. held ≡ [])
one_more seen [] one all is zero disk e = subst (λ d. IfSome (seen d) (λ held. held ≡ [])) (some_same one disk e) is
one_more seen [] one all is (suc k) disk e = absurd (omega (arith, slice_get_within (one ∷ []) (suc k) disk e))
one_more seen (d ∷ disks) one all is zero disk e = all.each zero disk e
one_more seen (d ∷ disks) one all is (suc k) disk e = one_more seen disks one (record { each = λ i found f. all.each (suc i) found f }) is k disk e

pub empty_more : {D : Type 0} (seen : D → Option (List ℕ)) (disks : List D) (one : D) → AreEmpty seen disks → IfSome (seen one) (λ held. held ≡ []) → AreEmpty seen (disks ++ one ∷ [])
empty_more seen disks one all is = record { each = one_more seen disks one all is }
