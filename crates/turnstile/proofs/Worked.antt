-- Histories that were shared out by hand.
use Rattle.std.proofs.Common.{◌≡◌, ℕ, zero, suc, ◌<◌, List, [], ◌∷◌, map, length, get_or, cond, refl, sym, ap, ◌∙◌, ne_eqb, arith}
use mathlib.Core.Logic.{dite}
use mathlib.Core.Option.{some, some-injective, some-ne-none}
use native.Mathlib.Decide.{ℕ_discrete}
use lib.ListN.{get_elem?}
use Rattle.turnstile.specs.Shares.{AllApart, written_by}
use Rattle.turnstile.specs.Worked.{OneEntryServesOne}

-- the history of one entry
abbrev one : List ℕ
one = 1 ∷ []

two_apart : AllApart (1 ∷ 2 ∷ [])
two_apart zero zero k a b = refl
two_apart zero (suc zero) k a b = absurd (let e = some-injective 1 k a in let e' = some-injective 2 k b in omega arith)
two_apart zero (suc (suc q)) k a b = absurd (some-ne-none k (sym b))
two_apart (suc zero) zero k a b = absurd (let e = some-injective 2 k a in let e' = some-injective 1 k b in omega arith)
two_apart (suc zero) (suc zero) k a b = refl
two_apart (suc zero) (suc (suc q)) k a b = absurd (some-ne-none k (sym b))
two_apart (suc (suc p)) q k a b = absurd (some-ne-none k (sym a))

two_named : (p k : ℕ) → get_elem? (1 ∷ 2 ∷ []) p ≡ some k → 0 < k
two_named zero k a = let e = some-injective 1 k a in omega arith
two_named (suc zero) k a = let e = some-injective 2 k a in omega arith
two_named (suc (suc p)) k a = absurd (some-ne-none k (sym a))

is_author : (a k : ℕ) → length (written_by k (a ∷ []) one) ≡ 1 → a ≡ k
is_author a k e = dite (ℕ_discrete a k) (λ same. same)
    (λ ne. absurd (let e' : length (written_by k (a ∷ []) one) ≡ 0 = ap (λ t. length (cond t one [])) (ne_eqb a k ne) in omega arith))

abbrev first_length : (lists : List (List ℕ)) → ℕ
first_length lists = length (get_or lists 0 [])

abbrev second_length : (lists : List (List ℕ)) → ℕ
second_length lists = length (get_or lists 1 [])

not_twice : (authors names : List ℕ) → length authors ≡ 1 → map (λ k. written_by k authors one) names ≡ one ∷ one ∷ [] → AllApart names → ⊥
not_twice [] names single lists apart = absurd (omega arith)
not_twice (a ∷ b ∷ rest) names single lists apart = absurd (omega arith)
not_twice (a ∷ []) [] single lists apart = absurd (let e = ap length lists in omega arith)
not_twice (a ∷ []) (j ∷ []) single lists apart = absurd (let e = ap length lists in omega arith)
not_twice (a ∷ []) (j ∷ k ∷ rest) single lists apart = let first = is_author a j (ap first_length lists) in let second = is_author a k (ap second_length lists) in
    absurd (let e = apart 0 1 j refl (ap some (sym second ∙ first)) in omega arith)

not_from_nothing : (authors names : List ℕ) → length authors ≡ 0 → map (λ k. written_by k authors []) names ≡ one ∷ [] → ⊥
not_from_nothing (a ∷ rest) names none lists = absurd (omega arith)
not_from_nothing [] [] none lists = absurd (let e = ap length lists in omega arith)
not_from_nothing [] (k ∷ rest) none lists = absurd (let e = ap first_length lists in omega arith)

pub one_entry_serves_one : OneEntryServesOne
one_entry_serves_one = record {
  shared = record { authors = 1 ∷ 2 ∷ 1 ∷ []; one_each = refl; opening_is = refl; names = 1 ∷ 2 ∷ []; lists_are = refl; names_apart = two_apart; not_opening = two_named };
  once = λ s. not_twice s.authors s.names s.one_each s.lists_are s.names_apart;
  none_left = λ s. not_from_nothing s.authors s.names s.one_each s.lists_are;
}
