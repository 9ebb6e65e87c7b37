-- Members of lists, reads of slots after one of them is written, and tests of numbers.
use Rattle.std.proofs.Common.{◌≡◌, ◌≢◌, ◌⊎◌, inl, inr, ⊎_elim, ℕ, zero, suc, Bool, true, false, List, [], ◌∷◌, ◌++◌, Option, Some, None, refl, ap, sym, ◌∙◌, true≢false, arith, nat_eq, if◌then◌else◌}
use Rattle.std.specs.Prelude.{slice_get, slice_set}
use Rattle.std.specs.Cmp.Lexicographic.{pointwise, bytes_decides}
use Rattle.std.proofs.lemmas.Bool.{eqb-true, eq-eqb}
use Rattle.object_model.specs.Lists.{Among}
use Rattle.maps_model.specs.Cluster.{Slot, slot_at, with_slot, is_that_node}

module _ {X : Type 0} where
  pub among_front : (x : X) (xs ys : List X) → Among x xs → Among x (xs ++ ys)
  among_front x [] ys h = absurd h
  among_front x (z ∷ xs) ys h = ⊎_elim (λ e. inl e) (λ m. inr (among_front x xs ys m)) h

  pub among_behind : (x : X) (xs ys : List X) → Among x ys → Among x (xs ++ ys)
  among_behind x [] ys h = h
  among_behind x (z ∷ xs) ys h = inr (among_behind x xs ys h)

  pub among_either : (x : X) (xs ys : List X) → Among x (xs ++ ys) → Among x xs ⊎ Among x ys
  among_either x [] ys h = inr h
  among_either x (z ∷ xs) ys h = ⊎_elim (λ e. inl (inl e)) (λ m. ⊎_elim (λ a. inl (inr a)) (λ b. inr b) (among_either x xs ys m)) h

  pub among_one : (x y : X) → Among x (y ∷ []) → y ≡ x
  among_one x y h = ⊎_elim (λ e. e) (λ none. absurd none) h

  pub same_some : (a : Option X) (x y : X) → a ≡ Some x → a ≡ Some y → x ≡ y
  same_some a x y p q = cc

  pub some_none : (a : Option X) (x : X) → a ≡ Some x → a ≡ None → ⊥
  some_none a x p q = cc

  get_same : (xs : List X) (n : ℕ) (x y : X) → slice_get xs n ≡ Some x → slice_get (slice_set xs n y) n ≡ Some y
  get_same [] n x y h = cc
  get_same (z ∷ xs) zero x y h = refl
  get_same (z ∷ xs) (suc n) x y h = get_same xs n x y h

  get_after : (xs : List X) (n m : ℕ) (x y z : X) → slice_get xs n ≡ Some x → slice_get (slice_set xs n y) m ≡ Some z → ((m ≡ n) × (z ≡ y)) ⊎ ((m ≢ n) × (slice_get xs m ≡ Some z))
  get_after [] n m x y z h r = cc
  get_after (w ∷ xs) zero zero x y z h r = inl (refl, cc)
  get_after (w ∷ xs) zero (suc m) x y z h r = inr (λ e. omega (arith, e), r)
  get_after (w ∷ xs) (suc n) zero x y z h r = inr (λ e. omega (arith, e), r)
  get_after (w ∷ xs) (suc n) (suc m) x y z h r = ⊎_elim (λ p. inl (ap suc p.0, p.1)) (λ q. inr (λ e. q.0 (omega (arith, e)), q.1)) (get_after xs n m x y z h r)

  get_before : (xs : List X) (n m : ℕ) (x y z : X) → slice_get xs n ≡ Some x → slice_get xs m ≡ Some z → ((m ≡ n) × (z ≡ x) × (slice_get (slice_set xs n y) m ≡ Some y)) ⊎ ((m ≢ n) × (slice_get (slice_set xs n y) m ≡ Some z))
  get_before [] n m x y z h r = cc
  get_before (w ∷ xs) zero zero x y z h r = inl (refl, cc, refl)
  get_before (w ∷ xs) zero (suc m) x y z h r = inr (λ e. omega (arith, e), r)
  get_before (w ∷ xs) (suc n) zero x y z h r = inr (λ e. omega (arith, e), r)
  get_before (w ∷ xs) (suc n) (suc m) x y z h r = ⊎_elim (λ p. inl (ap suc p.0, p.1, p.2)) (λ q. inr (λ e. q.0 (omega (arith, e)), q.1)) (get_before xs n m x y z h r)

-- the slot that is written
pub at_same : (slots : List Slot) (n : ℕ) (x y : Slot) → slot_at slots n ≡ Some x → slot_at (with_slot slots n y) n ≡ Some y
at_same slots zero x y h = cc
at_same slots (suc n) x y h = get_same slots n x y h

-- what a read finds: what was written, or what stood elsewhere
pub read_after : (slots : List Slot) (n m : ℕ) (x y z : Slot) → slot_at slots n ≡ Some x → slot_at (with_slot slots n y) m ≡ Some z → ((m ≡ n) × (z ≡ y)) ⊎ ((m ≢ n) × (slot_at slots m ≡ Some z))
read_after slots zero m x y z h r = cc
read_after slots (suc n) zero x y z h r = cc
read_after slots (suc n) (suc m) x y z h r = ⊎_elim (λ p. inl (ap suc p.0, p.1)) (λ q. inr (λ e. q.0 (omega (arith, e)), q.1)) (get_after slots n m x y z h r)

-- where what a read found is found: it was overwritten, or it stands
pub read_before : (slots : List Slot) (n m : ℕ) (x y z : Slot) → slot_at slots n ≡ Some x → slot_at slots m ≡ Some z
    → ((m ≡ n) × (z ≡ x) × (slot_at (with_slot slots n y) m ≡ Some y)) ⊎ ((m ≢ n) × (slot_at (with_slot slots n y) m ≡ Some z))
read_before slots zero m x y z h r = cc
read_before slots (suc n) zero x y z h r = cc
read_before slots (suc n) (suc m) x y z h r = ⊎_elim (λ p. inl (ap suc p.0, p.1, p.2)) (λ q. inr (λ e. q.0 (omega (arith, e)), q.1)) (get_before slots n m x y z h r)

-- a test of a number tells
pub same_or_apart : (a b : ℕ) → ((nat_eq a b ≡ true) × (a ≡ b)) ⊎ ((nat_eq a b ≡ false) × (a ≢ b))
same_or_apart a b = by (nat_eq a b) refl
  where
    by : (t : Bool) → nat_eq a b ≡ t → ((nat_eq a b ≡ true) × (a ≡ b)) ⊎ ((nat_eq a b ≡ false) × (a ≢ b))
    by true e = inl (e, eqb-true a b e)
    by false e = inr (e, λ same. true≢false (sym (eq-eqb a b same) ∙ e))

-- a test of a name tells
pub one_or_other : (a b : List ℕ) → ((pointwise nat_eq a b ≡ true) × (a ≡ b)) ⊎ ((pointwise nat_eq a b ≡ false) × (a ≢ b))
one_or_other a b = by (pointwise nat_eq a b) refl
  where
    by : (t : Bool) → pointwise nat_eq a b ≡ t → ((pointwise nat_eq a b ≡ true) × (a ≡ b)) ⊎ ((pointwise nat_eq a b ≡ false) × (a ≢ b))
    by true e = inl (e, (bytes_decides a b).0 e)
    by false e = inr (e, λ same. true≢false (sym ((bytes_decides a b).1 same) ∙ e))

-- either branch
pub if_either : {X : Type 0} (P : X → Type 0) (b : Bool) (x y : X) → (b ≡ true → P x) → (b ≡ false → P y) → P (if b then x else y)
if_either P true x y p q = p refl
if_either P false x y p q = q refl

-- who manages, by its test
pub node_is : (x : Option ℕ) (n : ℕ) → is_that_node x n ≡ true → x ≡ Some n
node_is None n e = absurd (true≢false (sym e))
node_is (Some m) n e = ap Some (eqb-true m n e)
