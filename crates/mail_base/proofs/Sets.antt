-- The word of a set of nodes, and what the set has.
use Rattle.std.proofs.Common.{◌≡◌, ◌≢◌, ⊎_elim, ℕ, zero, suc, ◌+◌, ◌-◌, ◌*◌, ◌/◌, ◌%◌, ◌^◌, ◌<◌, ◌≤◌, ◌||◌, ◌&&◌, not, Bool, true, false, refl, sym, ap, subst, ◌∙◌, arith, w64, bit_and, nat_eq, cond, add-one, true≢false, lt-ltb}
use Rattle.std.specs.Int.{bit_not}
use Rattle.std.proofs.lemmas.Bool.{and_parts, and_from, or_cases}
use Rattle.std.proofs.lemmas.Bool.Decides.{nat_tests}
use Rattle.std.proofs.Math.Pow.{pow-lt}
use Rattle.std.proofs.lemmas.Nat.{or_lt}
use Rattle.std.proofs.lemmas.Nat.Bits.{shr_and_one}
use Rattle.object_model.specs.Sets.{has, one_node, with_node, without_node, count_below}
use Rattle.object_model.proofs.SetLaws.{has_left, has_right, has_with, one_has, left_in, still_in}

-- two tests that agree
same_test : (a b : Bool) → (a ≡ true → b ≡ true) → (b ≡ true → a ≡ true) → a ≡ b
same_test true true f g = refl
same_test true false f g = sym (f refl)
same_test false true f g = g refl
same_test false false f g = refl

-- the word of one node
pub one_word : (k : ℕ) → 0 < k → one_node k ≡ 2 ^ (k - 1)
one_word zero above = absurd (omega (arith, above))
one_word (suc k) above = let e : suc k - 1 ≡ k = omega arith in ap (λ j. 2 ^ j) (sym e)

-- the test that the code makes
pub has_shifted : (mask at : ℕ) → at < 64 → nat_eq (bit_and (mask / 2 ^ at) 1) 1 ≡ has mask (at + 1)
has_shifted mask at low = rw (add-one, shr_and_one mask at, lt-ltb at 64 low) refl

-- the code's word without the node
pub without_word : (mask k : ℕ) → 0 < k → k ≤ 16 → bit_and mask (bit_not w64 (2 ^ (k - 1))) ≡ without_node mask k
without_word mask zero above few = absurd (omega (arith, above))
without_word mask (suc k) above few =
    let e : suc k - 1 ≡ k = omega arith in
    let low : k < 64 = omega (arith, few) in
    let small : 2 ^ k < 2 ^ 64 = pow-lt {i = k} {j = 64} low in
    let whole : 1 * 2 ^ k % 2 ^ 64 ≡ 2 ^ k = omega (arith, small) in
    rw (e, lt-ltb k 64 low, whole) refl

pub has_with_node : (mask k n : ℕ) → 0 < k → k ≤ 16 → has (with_node mask k) n ≡ (nat_eq n k || has mask n)
has_with_node mask zero n above few = absurd (omega (arith, above))
has_with_node mask (suc k) n above few = same_test (has (with_node mask (suc k)) n) (nat_eq n (suc k) || has mask n)
    (λ h. ⊎_elim (λ was. rw was (last (nat_eq n (suc k)))) (λ same. first n (suc k) (has mask n) same) (has_with mask (suc k) n h))
    (λ h. ⊎_elim
    (λ test. subst (λ m. has (with_node mask (suc k)) m ≡ true) (sym (is_same n (suc k) test)) (has_right mask (one_node (suc k)) (suc k) (one_has k (omega (arith, few)))))
    (λ was. has_left mask (one_node (suc k)) n was)
    (or_cases (nat_eq n (suc k)) (has mask n) h))
  where
    last : (b : Bool) → (b || true) ≡ true
    last true = refl
    last false = refl

    first : (x y : ℕ) (b : Bool) → x ≡ y → (nat_eq x y || b) ≡ true
    first x y b e = let t : nat_eq x y ≡ true = grind (arith, nat_tests, e) in rw t refl

    is_same : (x y : ℕ) → nat_eq x y ≡ true → x ≡ y
    is_same x y t = grind (arith, nat_tests, t)

pub has_without_node : (mask k n : ℕ) → has (without_node mask k) n ≡ (not (nat_eq n k) && has mask n)
has_without_node mask k n = same_test (has (without_node mask k) n) (not (nat_eq n k) && has mask n)
    (λ h. and_from (not (nat_eq n k)) (has mask n) (other n k (left_in mask k n h).1) (left_in mask k n h).0)
    (λ h. still_in mask k n (and_parts (not (nat_eq n k)) (has mask n) h).1 (apart n k (and_parts (not (nat_eq n k)) (has mask n) h).0))
  where
    other : (x y : ℕ) → x ≢ y → not (nat_eq x y) ≡ true
    other x y ne = grind (arith, nat_tests, ne)

    apart : (x y : ℕ) → not (nat_eq x y) ≡ true → x ≢ y
    apart x y t e = let same : nat_eq x y ≡ true = grind (arith, nat_tests, e) in true≢false (sym t ∙ ap not same)

-- only the nodes 1 to 16 stand in a set
pub with_small : (mask k : ℕ) → mask < 2 ^ 16 → 0 < k → k ≤ 16 → with_node mask k < 2 ^ 16
with_small mask k a above few = rw (one_word k above) (or_lt 16 mask (2 ^ (k - 1)) a (pow-lt {i = k - 1} {j = 16} (omega (arith, above, few))))

pub count_none : (mask : ℕ) → count_below mask 0 ≡ 0
unfolding count_below
count_none mask = refl

pub count_more : (mask n : ℕ) → count_below mask (n + 1) ≡ count_below mask n + cond (has mask (n + 1)) 1 0
unfolding count_below
count_more mask n = rw add-one refl
