-- Slots as each of both sees them, read and written.
use Rattle.std.proofs.Common.{◌≡◌, ℕ, zero, suc, List, [], ◌∷◌, map, Some, refl, ap}
use Rattle.std.specs.Prelude.{slice_get, slice_set}

module _ {X Y : Type 0} (f : X → Y) where
  pub get_seen : (xs : List X) (k : ℕ) (x : X) → slice_get xs k ≡ Some x → slice_get (map f xs) k ≡ Some (f x)
  get_seen [] k x e = absurd (cc e)
  get_seen (y ∷ xs) zero x e = ap Some (ap f (some y x e))
    where
      some : (a b : X) → Some a ≡ Some b → a ≡ b
      some a b p = cc
  get_seen (y ∷ xs) (suc k) x e = get_seen xs k x e

  pub set_seen : (xs : List X) (k : ℕ) (x : X) → map f (slice_set xs k x) ≡ slice_set (map f xs) k (f x)
  set_seen [] k x = refl
  set_seen (y ∷ xs) zero x = refl
  set_seen (y ∷ xs) (suc k) x = ap (λ (l : List Y). f y ∷ l) (set_seen xs k x)
