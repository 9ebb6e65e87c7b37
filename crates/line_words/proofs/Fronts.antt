-- Counts of octets at a beginning, and words in any case.
use Rattle.std.proofs.Common.{◌≡◌, ℕ, ◌+◌, ◌-◌, ◌<◌, ◌≤◌, Bool, true, false, ◌&&◌, nat_eq, get_or, List, [], ◌∷◌, ◌++◌, length, take, refl, sym, ◌∙◌, ap, arith}
use Rattle.std.proofs.lemmas.List.{take_rest, take_more, length_push}
use Rattle.std.proofs.lemmas.List.Folds.{length-prefix_len}
use Rattle.std.proofs.lemmas.List.Sums.{prefix_len-le-length}
use Rattle.std.proofs.lemmas.Bool.Decides.{nat_tests}
use Rattle.std.specs.List.{list_all, zip}
use Rattle.std.specs.Char.{to_ascii_uppercase}
use Rattle.mail_model.specs.Smtp.{is_blank, trimmed, is_word}

pub ruleset octet_counts = (length-prefix_len, prefix_len-le-length, take_rest)

-- words of one length, letter by letter
pub same_word : (octets word : List ℕ) → length octets ≡ length word → is_word octets word ≡ list_all (λ pair. nat_eq (to_ascii_uppercase pair.0) pair.1) (zip octets word)
same_word [] [] h = refl
same_word [] (w ∷ word) h = absurd (omega arith)
same_word (x ∷ octets) [] h = absurd (omega arith)
same_word (x ∷ octets) (w ∷ word) h = rw (same_word octets word (omega arith))

pub trimmed_more : (octets : List ℕ) (x : ℕ) → is_blank x ≡ true → trimmed (octets ++ x ∷ []) ≡ trimmed octets
trimmed_more [] x h = rw h
trimmed_more (y ∷ octets) x h = rw (trimmed_more octets x h)

none_of_more : (octets : List ℕ) (x : ℕ) → nat_eq (length (octets ++ x ∷ [])) 0 ≡ false
none_of_more octets x = rw (length_push octets x) (grind (arith, nat_tests))

pub and_false : (a : Bool) → (a && false) ≡ false
and_false true = refl
and_false false = refl

pub trimmed_done : (octets : List ℕ) (x : ℕ) → is_blank x ≡ false → trimmed (octets ++ x ∷ []) ≡ octets ++ x ∷ []
trimmed_done [] x h = rw h
trimmed_done (y ∷ octets) x h = rw (trimmed_done octets x h, none_of_more octets x, and_false)

-- a blank at the end is left out
pub trimmed_back : (line : List ℕ) (end : ℕ) → 0 < end → end ≤ length line → is_blank (get_or line (end - 1) 0) ≡ true → trimmed (take (end - 1) line) ≡ trimmed (take end line)
trimmed_back line end some within blank =
    let e : end ≡ end - 1 + 1 = omega arith in
    let more : take end line ≡ take (end - 1) line ++ get_or line (end - 1) 0 ∷ [] = ap (λ n. take n line) e ∙ take_more line (end - 1) 0 (omega arith) in
    rw more (sym (trimmed_more (take (end - 1) line) _ blank))

-- and nothing before another octet is
pub trimmed_at : (line : List ℕ) (end : ℕ) → 0 < end → end ≤ length line → is_blank (get_or line (end - 1) 0) ≡ false → take end line ≡ trimmed (take end line)
trimmed_at line end some within other =
    let e : end ≡ end - 1 + 1 = omega arith in
    let more : take end line ≡ take (end - 1) line ++ get_or line (end - 1) 0 ∷ [] = ap (λ n. take n line) e ∙ take_more line (end - 1) 0 (omega arith) in
    rw more (sym (trimmed_done (take (end - 1) line) _ other))

pub trimmed_all : (line : List ℕ) (end : ℕ) → end ≤ 0 → take end line ≡ trimmed (take end line)
trimmed_all line end none = let e : end ≡ 0 = omega arith in rw e
