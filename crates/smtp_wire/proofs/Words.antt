-- The words of a line, one after another.
use Rattle.std.proofs.Common.{◌≡◌, ⊎_elim, ℕ, ◌+◌, ◌<◌, ◌≤◌, suc, Bool, true, false, cond, not, nat_eq, List, [], ◌∷◌, length, take, drop, refl, sym, ◌∙◌, ap, arith, All}
use Rattle.std.specs.Prelude.{Result, Ok, Err}
use Rattle.std.specs.List.{position_or_len, slice_split, before_first, after_first}
use Rattle.std.proofs.lemmas.Bool.{cases_lt}
use Rattle.std.proofs.lemmas.List.{take_all, drop_all, drop-drop, length-take-le}
use Rattle.std.proofs.lemmas.List.Splits.{slice_split_first}
use Rattle.mail_model.specs.Smtp.{Given, Fault, none_given, verb_of, rest_of, words_of, and_then, with_word, with_words, is_parted, mail_parameters}
use Rattle.mail_model.specs.Smtp.Fault.{BadArgument}

-- a space
abbrev space : ℕ → Bool
space x = nat_eq x 32

-- octets without one are one word
one_word : (octets : List ℕ) → length octets ≤ position_or_len space octets → slice_split space octets ≡ octets ∷ []
one_word [] none = refl
one_word (x ∷ octets) none = by_test (nat_eq x 32) refl (λ h. one_word octets h)
  where
    no_room : nat_eq x 32 ≡ true → suc (length octets) ≤ position_or_len space (x ∷ octets) → ⊥
    no_room e h = let z : position_or_len space (x ∷ octets) ≡ 0 = rw e refl in omega (arith, h, z)

    by_test : (b : Bool) → nat_eq x 32 ≡ b → (length octets ≤ position_or_len space octets → slice_split space octets ≡ octets ∷ []) → slice_split space (x ∷ octets) ≡ (x ∷ octets) ∷ []
    by_test true is later = absurd (no_room is none)
    by_test false is later =
        let behind : position_or_len space (x ∷ octets) ≡ 1 + position_or_len space octets = rw is refl in
        rw is (rw (later (omega (arith, none, behind))) refl)

pub words_step : (given : Given) (rest : List ℕ) →
    with_words given (words_of rest) ≡ and_then (λ next. with_words next (words_of (drop 1 (rest_of rest)))) (with_word given (verb_of rest))
words_step given rest = ⊎_elim found none (cases_lt (position_or_len space rest) (length rest))
  where
    Is : Type 0
    Is = with_words given (words_of rest) ≡ and_then (λ next. with_words next (words_of (drop 1 (rest_of rest)))) (with_word given (verb_of rest))

    found : position_or_len space rest < length rest → Is
    found lt =
        let len : length (verb_of rest) ≡ position_or_len space rest = length-take-le (position_or_len space rest) rest (omega (arith, lt)) in
        let behind : drop 1 (rest_of rest) ≡ after_first space rest = ap (λ n. drop 1 (drop n rest)) len ∙ drop-drop 1 (position_or_len space rest) rest in
        ap (with_words given) (slice_split_first space rest 0 lt)
        ∙ ap (λ (l : List ℕ). and_then (λ next. with_words next (words_of l)) (with_word given (verb_of rest))) (sym behind)

    none : length rest ≤ position_or_len space rest → Is
    none le =
        let first : verb_of rest ≡ rest = take_all (position_or_len space rest) rest le in
        let behind : rest_of rest ≡ [] = ap (λ (l : List ℕ). drop (length l) rest) first ∙ drop_all (length rest) rest (omega arith) in
        ap (with_words given) (one_word rest le)
        ∙ ap (λ (l : List ℕ). and_then (λ next. with_words next []) (with_word given l)) (sym first)
        ∙ ap (λ (l : List ℕ). and_then (λ next. with_words next (words_of (drop 1 l))) (with_word given (verb_of rest))) (sym behind)

-- a fault ends it
pub words_stop : (given : Given) (rest : List ℕ) (fault : Fault) → Err fault ≡ with_word given (verb_of rest) → Err fault ≡ with_words given (words_of rest)
words_stop given rest fault is =
    ap (and_then (λ next. with_words next (words_of (drop 1 (rest_of rest))))) is ∙ sym (words_step given rest)

-- where a path is parted from what follows
pub words_all : (behind : List ℕ) (b : Bool) → b ≡ is_parted behind → b ≡ true → with_words none_given (words_of behind) ≡ mail_parameters behind
words_all behind b is parted = ap (λ (p : Bool). cond p (with_words none_given (words_of behind)) (Err BadArgument)) (sym parted ∙ is)
