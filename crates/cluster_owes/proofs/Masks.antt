-- A set of nodes as a list.
use Rattle.std.proofs.Common.{◌≡◌, ⊎_elim, inl, inr, ◌<◌, ◌≤◌, ◌+◌, ◌-◌, ◌*◌, ◌/◌, ◌%◌, ◌^◌, ℕ, zero, suc, Bool, true, false, ◌&&◌, List, [], ◌∷◌, ◌++◌, length, All, refl, sym, ap, ◌∙◌, subst, arith, if◌then◌else◌}
use Rattle.std.specs.Prelude.{nat_lt, nat_eq}
use Rattle.std.specs.Int.{bit_at}
use Rattle.std.proofs.Math.Pow.{pow-lt}
use Rattle.std.proofs.Math.Nat.{div-lt_iff_lt-mul, mod-lt, two-pow-succ}
use Rattle.std.proofs.lemmas.Nat.{shr_split, or_lt, pow_pos}
use Rattle.std.proofs.lemmas.Nat.Bits.{bit_at_cat_low}
use Rattle.std.proofs.lemmas.Bool.{and_parts}
use Rattle.std.proofs.lemmas.Bool.Decides.{nat_tests}
use Rattle.std.proofs.lemmas.List.Elements.{All-cons, All-nil}
use Rattle.mail_model.specs.Stored.{AreRising}
use Rattle.mail_model.specs.Deleted.{mask_of}
use Rattle.object_model.specs.Lists.{Among}
use Rattle.object_model.specs.Sets.{has, one_node, with_node, count_below, nodes_in}
use Rattle.object_model.proofs.Lists.{among_either}

-- a set of nodes up to 64
abbrev pub IsMask : ℕ → Type 0
IsMask mask = mask < 2 ^ 64

-- one more node keeps it so
pub with_mask : (mask n : ℕ) → n ≤ 64 → IsMask mask → IsMask (with_node mask n)
with_mask mask n le is = or_lt 64 mask (one_node n) is (one n le)
  where
    one : (n : ℕ) → n ≤ 64 → one_node n < 2 ^ 64
    one zero le = omega arith
    one (suc k) le = pow-lt (let so : k < 64 = omega (arith, le) in so)

pub one_mask : (n : ℕ) → n ≤ 64 → IsMask (one_node n)
one_mask zero le = omega arith
one_mask (suc k) le = pow-lt (let so : k < 64 = omega (arith, le) in so)

-- who is in a set is one of 64
pub within_64 : (mask n : ℕ) → has mask n ≡ true → n ≤ 64
within_64 mask zero h = omega arith
within_64 mask (suc k) h = below (and_parts (nat_lt k 64) (nat_eq (bit_at mask k) 1) h).0
  where
    below : nat_lt k 64 ≡ true → suc k ≤ 64
    below e = grind (arith, nat_tests)

mask_both : (xs ys : List ℕ) → mask_of (xs ++ ys) ≡ mask_of xs + mask_of ys
mask_both [] ys = omega arith
mask_both (x ∷ xs) ys = let more = mask_both xs ys in omega (arith, more)

-- the low bits of a number
same_low : (x y k : ℕ) → ((n : ℕ) → n ≤ k → has x n ≡ has y n) → nodes_in x k ≡ nodes_in y k
same_low x y zero same = refl
same_low x y (suc k) same =
    let low = same_low x y k (λ n le. same n (omega (arith, le))) in
    ap (λ (l : List ℕ). l ++ (if has x (suc k) then suc k ∷ [] else [])) low
    ∙ ap (λ (b : Bool). nodes_in y k ++ (if b then suc k ∷ [] else [])) (same (suc k) (omega arith))

has_low : (x k n : ℕ) → n ≤ k → has x n ≡ has (x % 2 ^ k) n
has_low x k zero le = refl
has_low x k (suc j) le = ap (λ b. nat_lt j 64 && nat_eq b 1)
    (ap (λ y. bit_at y j) (sym (shr_split x k)) ∙ bit_at_cat_low (x / 2 ^ k) k (x % 2 ^ k) j (omega (arith, le)))

-- the list has the mask
pub mask_is : (k mask : ℕ) → k ≤ 64 → mask < 2 ^ k → mask_of (nodes_in mask k) ≡ mask
mask_is zero mask le lt = omega (arith, lt)
mask_is (suc k) mask le lt = by (low (mask_is k (mask % 2 ^ k) (omega (arith, le)) (mod-lt mask (pow_pos k)))) (mask / 2 ^ k) refl ((div-lt_iff_lt-mul {k = 2 ^ k} {x = mask} {y = 2} (pow_pos k)).1 (doubled (two-pow-succ k) lt))
  where
    low : mask_of (nodes_in (mask % 2 ^ k) k) ≡ mask % 2 ^ k → mask_of (nodes_in mask k) ≡ mask % 2 ^ k
    low more = ap mask_of (same_low mask (mask % 2 ^ k) k (λ n within. has_low mask k n within)) ∙ more

    doubled : 2 ^ suc k ≡ 2 ^ k + 2 ^ k → mask < 2 ^ suc k → mask < 2 * 2 ^ k
    doubled e lt = let so : mask < 2 ^ k + 2 ^ k = subst (λ x. mask < x) e lt in omega (arith, so)

    test : (q : ℕ) → mask / 2 ^ k ≡ q → has mask (suc k) ≡ (nat_lt k 64 && nat_eq (q % 2) 1)
    test q e = ap (λ x. nat_lt k 64 && nat_eq (x % 2) 1) e

    small : nat_lt k 64 ≡ true
    small = let so : k < 64 = omega (arith, le) in grind (arith, nat_tests)

    left : (b : Bool) → (b && false) ≡ false
    left true = refl
    left false = refl

    sum : (q r p m : ℕ) → q ≡ 1 → q * p + r ≡ m → r + (p + 0) ≡ m
    sum q r p m is e = let one : 1 * p + r ≡ m = subst (λ x. x * p + r ≡ m) is e in omega (arith, one)

    none : (q r p m : ℕ) → q ≡ 0 → q * p + r ≡ m → r + 0 ≡ m
    none q r p m is e = let zeros : 0 * p + r ≡ m = subst (λ x. x * p + r ≡ m) is e in omega (arith, zeros)

    by : mask_of (nodes_in mask k) ≡ mask % 2 ^ k → (q : ℕ) → mask / 2 ^ k ≡ q → q < 2 → mask_of (nodes_in mask (suc k)) ≡ mask
    by low zero e lt = ap (λ (b : Bool). mask_of (nodes_in mask k ++ (if b then suc k ∷ [] else []))) (test 0 e ∙ left (nat_lt k 64))
        ∙ mask_both (nodes_in mask k) [] ∙ ap (λ x. x + 0) low ∙ none (mask / 2 ^ k) (mask % 2 ^ k) (2 ^ k) mask e (shr_split mask k)
    by low (suc zero) e lt = ap (λ (b : Bool). mask_of (nodes_in mask k ++ (if b then suc k ∷ [] else []))) (test 1 e ∙ ap (λ b. b && true) small)
        ∙ mask_both (nodes_in mask k) (suc k ∷ []) ∙ ap (λ x. x + (2 ^ (suc k - 1) + 0)) low
        ∙ ap (λ j. mask % 2 ^ k + (2 ^ j + 0)) (one_less k) ∙ sum (mask / 2 ^ k) (mask % 2 ^ k) (2 ^ k) mask e (shr_split mask k)
      where
        one_less : (k : ℕ) → suc k - 1 ≡ k
        one_less k = omega arith
    by low (suc (suc q)) e lt = absurd (omega (arith, lt))

-- so many as the set has
pub count_is : (mask k : ℕ) → length (nodes_in mask k) ≡ count_below mask k
unfolding count_below
count_is mask zero = refl
count_is mask (suc k) = length_both (nodes_in mask k) (if has mask (suc k) then suc k ∷ [] else []) ∙ by (has mask (suc k)) (count_is mask k)
  where
    length_both : (xs ys : List ℕ) → length (xs ++ ys) ≡ length xs + length ys
    length_both [] ys = omega arith
    length_both (x ∷ xs) ys = let more = length_both xs ys in omega (arith, more)

    by : (b : Bool) → length (nodes_in mask k) ≡ count_below mask k → length (nodes_in mask k) + length (if b then suc k ∷ [] else []) ≡ count_below mask k + (if b then 1 else 0)
    by true e = omega (arith, e)
    by false e = omega (arith, e)

-- who is in the list is in the set
pub in_list : (mask k n : ℕ) → Among n (nodes_in mask k) → (has mask n ≡ true) × (0 < n) × (n ≤ k)
in_list mask zero n m = absurd m
in_list mask (suc k) n m = ⊎_elim
    (λ low. let r = in_list mask k n low in (r.0, r.1, omega (arith, r.2)))
    (λ last. at (has mask (suc k)) refl last)
    (among_either n (nodes_in mask k) (if has mask (suc k) then suc k ∷ [] else []) m)
  where
    at : (b : Bool) → has mask (suc k) ≡ b → Among n (if b then suc k ∷ [] else []) → (has mask n ≡ true) × (0 < n) × (n ≤ suc k)
    at true e (inl is) = (subst (λ j. has mask j ≡ true) is e, subst (λ j. 0 < j) is (omega arith), subst (λ j. j ≤ suc k) is (omega arith))
    at true e (inr none) = absurd none
    at false e none = absurd none

-- it rises, and its nodes are of the plan if all in the set are
pub list_rises : (mask k nodes : ℕ) → ((n : ℕ) → has mask n ≡ true → n ≤ nodes) → AreRising 0 (nodes_in mask k) nodes
list_rises mask zero nodes within = tt
list_rises mask (suc k) nodes within = by (list_rises mask k nodes within) (has mask (suc k)) refl
  where
    -- a list that rises to some node, with one above it
    behind : (low : ℕ) (xs : List ℕ) (last : ℕ) → low < last → ((n : ℕ) → Among n xs → n < last) → last ≤ nodes → AreRising low xs nodes → AreRising low (xs ++ last ∷ []) nodes
    behind low [] last lt below le r = (lt, le, tt)
    behind low (x ∷ xs) last lt below le r = (r.0, r.1, behind x xs last (below x (inl refl)) (λ n m. below n (inr m)) le r.2)

    nothing : (xs : List ℕ) → xs ++ [] ≡ xs
    nothing [] = refl
    nothing (x ∷ xs) = ap (λ (l : List ℕ). x ∷ l) (nothing xs)

    by : AreRising 0 (nodes_in mask k) nodes → (b : Bool) → has mask (suc k) ≡ b → AreRising 0 (nodes_in mask k ++ (if b then suc k ∷ [] else [])) nodes
    by low false e = subst (λ l. AreRising 0 l nodes) (sym (nothing (nodes_in mask k))) low
    by low true e = behind 0 (nodes_in mask k) (suc k) (omega arith) (λ n m. let r = in_list mask k n m in omega (arith, r.2)) (within (suc k) e) low

-- what is so of all in the set is so of the list
pub all_in_list : (P : ℕ → Type 0) (mask k : ℕ) → ((n : ℕ) → has mask n ≡ true → P n) → All P (nodes_in mask k)
all_in_list P mask k each = go (nodes_in mask k) (λ n m. each n (in_list mask k n m).0)
  where
    go : (xs : List ℕ) → ((n : ℕ) → Among n xs → P n) → All P xs
    go [] each = All-nil P
    go (x ∷ xs) each = All-cons P x xs (each x (inl refl)) (go xs (λ n m. each n (inr m)))
