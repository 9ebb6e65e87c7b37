-- The digits of a word, one by one, give its number.
use Rattle.std.proofs.Common.{◌≡◌, ⊎_elim, ℕ, ◌+◌, ◌-◌, ◌*◌, ◌<◌, ◌≤◌, suc, zero, ◌∙◌, sym, Bool, ◌&&◌, true, false, cond, nat_lt, length, List, [], ◌∷◌, Some, None, refl, ap, arith}
use Rattle.std.specs.Prelude.{fold}
use Rattle.std.specs.List.{list_all}
use Rattle.line_words.proofs.Verbs.{and_true}
use Rattle.std.proofs.lemmas.Bool.{cases_lt}
use Rattle.std.proofs.lemmas.Bool.Decides.{nat_tests}
use Rattle.mail_model.specs.Numbers.{is_digit, value_after}
use Rattle.line_words.specs.Words.{shifted, shifted_long}

-- more digits make no number smaller
grows : (n : ℕ) (xs : List ℕ) → n ≤ value_after n xs
grows n [] = omega arith
grows n (x ∷ xs) = let more = grows (n * 10 + (x - 48)) xs in omega arith

none_more : (xs : List ℕ) → fold shifted None xs ≡ None
none_more [] = refl
none_more (x ∷ xs) = none_more xs

-- one digit more
one_more : (next : ℕ) (xs : List ℕ) → (next < 18446744073709551616 → fold shifted (Some next) xs ≡ cond (nat_lt (value_after next xs) 18446744073709551616) (Some (value_after next xs)) None)
    → fold shifted (cond (nat_lt next 18446744073709551616) (Some next) None) xs ≡ cond (nat_lt (value_after next xs) 18446744073709551616) (Some (value_after next xs)) None
one_more next xs rest = ⊎_elim inner outer (cases_lt next 18446744073709551616)
  where
    inner : next < 18446744073709551616 → fold shifted (cond (nat_lt next 18446744073709551616) (Some next) None) xs ≡ cond (nat_lt (value_after next xs) 18446744073709551616) (Some (value_after next xs)) None
    inner lt = let yes : nat_lt next 18446744073709551616 ≡ true = grind (arith, nat_tests) in rw yes (rest lt)

    outer : 18446744073709551616 ≤ next → fold shifted (cond (nat_lt next 18446744073709551616) (Some next) None) xs ≡ cond (nat_lt (value_after next xs) 18446744073709551616) (Some (value_after next xs)) None
    outer le =
        let no : nat_lt next 18446744073709551616 ≡ false = grind (arith, nat_tests) in
        let more : next ≤ value_after next xs = grows next xs in
        let never : nat_lt (value_after next xs) 18446744073709551616 ≡ false = grind (arith, nat_tests) in
        rw (no, none_more xs, never) refl

fold_from : (n : ℕ) (xs : List ℕ) → n < 18446744073709551616 → fold shifted (Some n) xs ≡ cond (nat_lt (value_after n xs) 18446744073709551616) (Some (value_after n xs)) None
fold_from n [] small = let yes : nat_lt n 18446744073709551616 ≡ true = grind (arith, nat_tests) in rw yes refl
fold_from n (x ∷ xs) small = one_more (n * 10 + (x - 48)) xs (λ lt. fold_from (n * 10 + (x - 48)) xs lt)

pub fold_is_number : (xs : List ℕ) → fold shifted (Some 0) xs ≡ cond (nat_lt (value_after 0 xs) 18446744073709551616) (Some (value_after 0 xs)) None
fold_is_number xs = fold_from 0 xs (omega arith)

-- what so many digits stay below
abbrev bound : ℕ → ℕ
bound zero = 1
bound (suc k) = 10 * bound k

bound_grows : (k more : ℕ) → bound k ≤ bound (k + more)
bound_grows k zero = let e : k + 0 ≡ k = omega arith in rw e (omega arith)
bound_grows k (suc more) =
    let e : k + suc more ≡ suc (k + more) = omega arith in
    let less = bound_grows k more in
    rw e (omega arith)

digit_small : (x : ℕ) → is_digit x ≡ true → x - 48 ≤ 9
digit_small x h = grind (arith, nat_tests)

-- so 20 digits stay below 2^128
long_from : (k n : ℕ) (xs : List ℕ) → n < bound k → k + length xs ≤ 20 → list_all is_digit xs ≡ true → fold shifted_long (Some n) xs ≡ Some (value_after n xs)
long_from k n [] small few digits = refl
long_from k n (x ∷ xs) small few digits =
    let both = and_true (is_digit x) (list_all is_digit xs) digits in
    let digit = digit_small x both.0 in
    let next : n * 10 + (x - 48) < bound (suc k) = omega arith in
    let room : suc k + (20 - suc k) ≡ 20 = omega arith in
    let most : bound (suc k) ≤ bound (suc k + (20 - suc k)) = bound_grows (suc k) (20 - suc k) in
    let last : bound (suc k + (20 - suc k)) ≡ 100000000000000000000 = ap bound room in
    let within : bound (suc k) ≤ 100000000000000000000 = omega (arith, most, last) in
    let fits : nat_lt (n * 10 + (x - 48)) 340282366920938463463374607431768211456 ≡ true = grind (arith, nat_tests) in
    rw fits (long_from (suc k) (n * 10 + (x - 48)) xs next (omega arith) both.1)

pub long_fold : (xs : List ℕ) → length xs ≤ 20 → list_all is_digit xs ≡ true → fold shifted_long (Some 0) xs ≡ Some (value_after 0 xs)
long_fold xs few digits = long_from 0 0 xs (omega arith) (omega (arith, few)) digits
