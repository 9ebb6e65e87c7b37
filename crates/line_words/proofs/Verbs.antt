-- A word at the beginning of a line, and what follows it.
use Rattle.std.proofs.Common.{◌≡◌, ◌⊎◌, inl, inr, ℕ, Bool, true, false, cond, ◌&&◌, ◌||◌, nat_eq, List, [], ◌∷◌, ◌++◌, length, refl, arith}
use Rattle.std.specs.List.{position_or_len}
use Rattle.mail_model.specs.Names.{begins_with}
use Rattle.mail_model.specs.Smtp.{is_blank, trimmed}
use Rattle.line_words.specs.Words.{IsOneWord}

pub and_true : (a b : Bool) → (a && b) ≡ true → (a ≡ true) × (b ≡ true)
and_true true b h = (refl, h)
and_true false b h = absurd (cc)

pub or_false : (a b : Bool) → (a || b) ≡ false → (a ≡ false) × (b ≡ false)
or_false true b h = absurd (cc)
or_false false b h = (refl, h)

-- a leading space, or nothing
abbrev pub begins_or_ends : List ℕ → Bool
begins_or_ends [] = true
begins_or_ends (x ∷ xs) = nat_eq x 32

pub begins_or_ends_from : (rest : List ℕ) → ((rest ≡ []) ⊎ (begins_with 32 rest ≡ true)) → begins_or_ends rest ≡ true
begins_or_ends_from [] r = refl
begins_or_ends_from (x ∷ rest) (inl e) = absurd (cc)
begins_or_ends_from (x ∷ rest) (inr e) = e

pub trimmed_begins : (rest : List ℕ) → begins_or_ends rest ≡ true → begins_or_ends (trimmed rest) ≡ true
trimmed_begins [] r = refl
trimmed_begins (x ∷ rest) r = elim (is_blank x && nat_eq (length (trimmed rest)) 0) as (λ b. begins_or_ends (cond b [] (x ∷ trimmed rest)) ≡ true) [ true ↦ refl | false ↦ r ]

pub word_no_space : (x : ℕ) → is_blank x ≡ false → nat_eq x 32 ≡ false
word_no_space x h = (or_false (nat_eq x 32) (nat_eq x 9) h).0

-- a leading word stays
pub word_len : (verb rest : List ℕ) → IsOneWord verb → begins_or_ends rest ≡ true → position_or_len (λ x. nat_eq x 32) (verb ++ rest) ≡ length verb
word_len [] [] w r = refl
word_len [] (x ∷ rest) w r = rw r
word_len (x ∷ verb) rest w r = let p = or_false (is_blank x) _ w in rw (word_no_space x p.0, word_len verb rest p.1 r) (omega arith)

pub word_trimmed : (verb rest : List ℕ) → IsOneWord verb → trimmed (verb ++ rest) ≡ verb ++ trimmed rest
word_trimmed [] rest w = refl
word_trimmed (x ∷ verb) rest w = let p = or_false (is_blank x) _ w in rw (p.0, word_trimmed verb rest p.1)
