-- Masks as sets of nodes.
use Rattle.std.proofs.Common.{◌≡◌, ◌≢◌, ◌⊎◌, inl, inr, ⊎_elim, ℕ, zero, suc, ◌*◌, ◌%◌, ◌^◌, ◌<◌, ◌≤◌, ◌||◌, ◌&&◌, Bool, true, false, refl, sym, ap, subst, ◌∙◌, arith, w64, bit_and, bit_or, nat_eq, nat_lt, cond, true≢false, lt-ltb, ltb-true}
use Rattle.std.specs.Prelude.{max}
use Rattle.std.specs.Int.{bit_at, bit_not}
use Rattle.std.proofs.lemmas.Bool.{cases_eq, and_parts, and_from, or_cases}
use Rattle.std.proofs.lemmas.Bool.Decides.{nat_tests}
use Rattle.std.proofs.lemmas.Nat.Bits.{bit_at_or, bit_at-pow_same, bit_at-pow_other, bit_at-zero, bit_at_clear_same, bit_at_clear_other, bit_at-lt}
use Rattle.object_model.specs.Sets.{has, one_node, with_node, without_node, all_nodes}

pub has_or : (a b n : ℕ) → has (bit_or a b) n ≡ (has a n || has b n)
has_or a b zero = refl
has_or a b (suc k) = rw bit_at_or (two (nat_lt k 64) (bit_at a k) (bit_at b k) (bit_at-lt a k) (bit_at-lt b k))
  where
    two : (within : Bool) (x y : ℕ) → x < 2 → y < 2 → (within && nat_eq (max x y) 1) ≡ ((within && nat_eq x 1) || (within && nat_eq y 1))
    two true x y lx ly = grind (arith, nat_tests)
    two false x y lx ly = refl

-- a node of both is one of either
pub or_has : (a b n : ℕ) → has (bit_or a b) n ≡ true → (has a n ≡ true) ⊎ (has b n ≡ true)
or_has a b n h = or_cases (has a n) (has b n) (sym (has_or a b n) ∙ h)

pub has_left : (a b n : ℕ) → has a n ≡ true → has (bit_or a b) n ≡ true
has_left a b n h = has_or a b n ∙ ap (λ x. x || has b n) h

pub has_right : (a b n : ℕ) → has b n ≡ true → has (bit_or a b) n ≡ true
has_right a b n h = has_or a b n ∙ ap (λ x. has a n || x) h ∙ last (has a n)
  where
    last : (x : Bool) → (x || true) ≡ true
    last true = refl
    last false = refl

-- nobody is in the empty set
pub has_none : (n : ℕ) → has 0 n ≡ false
has_none zero = refl
has_none (suc k) = rw (bit_at-zero k) (low (nat_lt k 64))
  where
    low : (b : Bool) → (b && false) ≡ false
    low true = refl
    low false = refl

-- the one node
pub has_one : (m n : ℕ) → has (one_node m) n ≡ true → n ≡ m
has_one zero n h = absurd (true≢false (sym h ∙ has_none n))
has_one (suc k) zero h = absurd (true≢false (sym h))
has_one (suc k) (suc j) h = ⊎_elim
    (λ same. ap suc same)
    (λ apart. absurd (true≢false (sym (and_parts (nat_lt j 64) (nat_eq (bit_at (2 ^ k) j) 1) h).1 ∙ ap (λ x. nat_eq x 1) (bit_at-pow_other k j apart))))
    (cases_eq j k)

pub one_has : (k : ℕ) → k < 64 → has (one_node (suc k)) (suc k) ≡ true
one_has k lt = and_from (nat_lt k 64) (nat_eq (bit_at (2 ^ k) k) 1) (lt-ltb k 64 lt) (ap (λ x. nat_eq x 1) (bit_at-pow_same k))

pub has_with : (mask m n : ℕ) → has (with_node mask m) n ≡ true → (has mask n ≡ true) ⊎ (n ≡ m)
has_with mask m n h = ⊎_elim (λ a. inl a) (λ b. inr (has_one m n b)) (or_has mask (one_node m) n h)

-- who is left was there, and is another
pub left_in : (mask m n : ℕ) → has (without_node mask m) n ≡ true → (has mask n ≡ true) × (n ≢ m)
left_in mask zero zero h = absurd (true≢false (sym h))
left_in mask zero (suc j) h = (h, λ e. cc)
left_in mask (suc k) zero h = absurd (true≢false (sym h))
left_in mask (suc k) (suc j) h = by (nat_lt k 64) refl h
  where
    by : (b : Bool) → nat_lt k 64 ≡ b → has (cond b (bit_and mask (bit_not w64 (1 * 2 ^ k % 2 ^ 64))) mask) (suc j) ≡ true → (has mask (suc j) ≡ true) × (suc j ≢ suc k)
    by true e g =
        let parts = and_parts (nat_lt j 64) (nat_eq (bit_at (bit_and mask (bit_not w64 (1 * 2 ^ k % 2 ^ 64))) j) 1) g in
        ⊎_elim
        (λ same. absurd (true≢false (sym parts.1 ∙ ap (λ x. nat_eq x 1) (ap (bit_at (bit_and mask (bit_not w64 (1 * 2 ^ k % 2 ^ 64)))) same ∙ bit_at_clear_same w64 mask k (ltb-true k 64 e)))))
        (λ apart. (
          and_from (nat_lt j 64) (nat_eq (bit_at mask j) 1) parts.0
              (sym (ap (λ x. nat_eq x 1) (bit_at_clear_other w64 mask k (ltb-true k 64 e) j (ltb-true j 64 parts.0) apart)) ∙ parts.1),
          λ s. apart (pred_same s),
        ))
        (cases_eq j k)
      where
        pred_same : suc j ≡ suc k → j ≡ k
        pred_same s = omega (arith, s)
    by false e g = (g, λ s. true≢false (sym (and_parts (nat_lt j 64) (nat_eq (bit_at mask j) 1) g).0 ∙ ap (λ x. nat_lt x 64) (pred_same s) ∙ e))
      where
        pred_same : suc j ≡ suc k → j ≡ k
        pred_same s = omega (arith, s)

-- and who was there and is another is left
pub still_in : (mask m n : ℕ) → has mask n ≡ true → n ≢ m → has (without_node mask m) n ≡ true
still_in mask zero n h apart = h
still_in mask (suc k) zero h apart = absurd (true≢false (sym h))
still_in mask (suc k) (suc j) h apart = by (nat_lt k 64) refl
  where
    by : (b : Bool) → nat_lt k 64 ≡ b → has (cond b (bit_and mask (bit_not w64 (1 * 2 ^ k % 2 ^ 64))) mask) (suc j) ≡ true
    by true e =
        let parts = and_parts (nat_lt j 64) (nat_eq (bit_at mask j) 1) h in
        and_from (nat_lt j 64) (nat_eq (bit_at (bit_and mask (bit_not w64 (1 * 2 ^ k % 2 ^ 64))) j) 1) parts.0
        (ap (λ x. nat_eq x 1) (bit_at_clear_other w64 mask k (ltb-true k 64 e) j (ltb-true j 64 parts.0) (λ s. apart (ap suc s))) ∙ parts.1)
    by false e = h

-- a set with nobody but one has nobody else
pub only_one : (mask m : ℕ) → without_node mask m ≡ 0 → (n : ℕ) → has mask n ≡ true → n ≢ m → ⊥
only_one mask m none n h apart = true≢false (sym (still_in mask m n h apart) ∙ ap (λ s. has s n) none ∙ has_none n)

-- the nodes of a plan
pub all_has : (nodes n : ℕ) → n ≢ 0 → n ≤ nodes → nodes ≤ 64 → has (all_nodes nodes) n ≡ true
all_has zero n apart le within = absurd (apart (omega (arith, le)))
all_has (suc k) n apart le within = ⊎_elim
    (λ same. subst (λ j. has (all_nodes (suc k)) j ≡ true) (sym same) (has_right (all_nodes k) (one_node (suc k)) (suc k) (one_has k within)))
    (λ other. has_left (all_nodes k) (one_node (suc k)) n (all_has k n apart (omega (arith, le, other)) (omega (arith, within))))
    (cases_eq n (suc k))
