-- Members of lists, and reads of a list after one of its places is written.
use Rattle.std.proofs.Common.{◌≡◌, ◌⊎◌, inl, inr, ⊎_elim, ℕ, zero, suc, List, [], ◌∷◌, ◌++◌, Option, Some, refl, ap}
use Rattle.std.specs.Prelude.{slice_get, slice_set}
use Rattle.object_model.specs.Lists.{Among}

module _ {X : Type 0} where
  pub among_front : (x : X) (xs ys : List X) → Among x xs → Among x (xs ++ ys)
  among_front x [] ys h = absurd h
  among_front x (z ∷ xs) ys h = ⊎_elim (λ e. inl e) (λ m. inr (among_front x xs ys m)) h

  pub among_behind : (x : X) (xs ys : List X) → Among x ys → Among x (xs ++ ys)
  among_behind x [] ys h = h
  among_behind x (z ∷ xs) ys h = inr (among_behind x xs ys h)

  pub among_either : (x : X) (xs ys : List X) → Among x (xs ++ ys) → Among x xs ⊎ Among x ys
  among_either x [] ys h = inr h
  among_either x (z ∷ xs) ys h = ⊎_elim (λ e. inl (inl e)) (λ m. ⊎_elim (λ a. inl (inr a)) (λ b. inr b) (among_either x xs ys m)) h

  -- one of a list with one more after it
  pub among_last : (x : X) (xs : List X) (y : X) → Among x (xs ++ y ∷ []) → Among x xs ⊎ (y ≡ x)
  among_last x xs y h = ⊎_elim (λ a. inl a) (λ b. ⊎_elim (λ e. inr e) (λ none. absurd none) b) (among_either x xs (y ∷ []) h)

  pub same_some : (a : Option X) (x y : X) → a ≡ Some x → a ≡ Some y → x ≡ y
  same_some a x y p q = cc

  pub get_same : (xs : List X) (n : ℕ) (x y : X) → slice_get xs n ≡ Some x → slice_get (slice_set xs n y) n ≡ Some y
  get_same [] n x y h = cc
  get_same (z ∷ xs) zero x y h = refl
  get_same (z ∷ xs) (suc n) x y h = get_same xs n x y h

  pub get_after : (xs : List X) (n m : ℕ) (x y z : X) → slice_get xs n ≡ Some x → slice_get (slice_set xs n y) m ≡ Some z → ((m ≡ n) × (z ≡ y)) ⊎ (slice_get xs m ≡ Some z)
  get_after [] n m x y z h r = cc
  get_after (w ∷ xs) zero zero x y z h r = inl (refl, cc)
  get_after (w ∷ xs) zero (suc m) x y z h r = inr r
  get_after (w ∷ xs) (suc n) zero x y z h r = inr r
  get_after (w ∷ xs) (suc n) (suc m) x y z h r = ⊎_elim (λ p. inl (ap suc p.0, p.1)) (λ q. inr q) (get_after xs n m x y z h r)

  pub get_before : (xs : List X) (n m : ℕ) (x y z : X) → slice_get xs n ≡ Some x → slice_get xs m ≡ Some z → ((m ≡ n) × (z ≡ x) × (slice_get (slice_set xs n y) m ≡ Some y)) ⊎ (slice_get (slice_set xs n y) m ≡ Some z)
  get_before [] n m x y z h r = cc
  get_before (w ∷ xs) zero zero x y z h r = inl (refl, cc, refl)
  get_before (w ∷ xs) zero (suc m) x y z h r = inr r
  get_before (w ∷ xs) (suc n) zero x y z h r = inr r
  get_before (w ∷ xs) (suc n) (suc m) x y z h r = ⊎_elim (λ p. inl (ap suc p.0, p.1, p.2)) (λ q. inr q) (get_before xs n m x y z h r)
