-- Copies of a name: as many as holders are left.
use Rattle.std.proofs.Common.{◌≡◌, inl, ◌≤◌, ◌<◌, ◌+◌, ℕ, nat_eq, Bool, true, false, List, [], ◌∷◌, ◌++◌, length, All, Option, Some, None, refl, sym, ap, ◌∙◌, subst, arith, le_trans, le_refl, if◌then◌else◌}
use Rattle.std.proofs.lemmas.List.Elements.{All-nil, All-cons, All-head, All-tail}
use Rattle.object_model.specs.Sets.{has, without_node, count_in}
use Rattle.object_model.specs.Lists.{Among}
use Rattle.cluster_model.specs.Rules.{receivers}
use Rattle.cluster_model.proofs.Logs.{receiver_is}
use Rattle.login_model.specs.Readings.{FetchStage}
use Rattle.login_model.specs.Readings.FetchStage.{AsksHolder, IsAnswered, NobodyLeft}
use Rattle.login_model.specs.Progress.{fetch_chances}
use Rattle.login_model.proofs.Chances.{left_less, left_le}
use Rattle.node_reads.specs.Readings.{first_in, left_after, HasSpares}

-- a holder is left, so there is a copy
pub some_left : (stage : FetchStage) (user : List ℕ) (spares : List (List ℕ)) (left holder : ℕ) → HasSpares stage user spares → count_in left ≤ fetch_chances stage → has left holder ≡ true → 0 < length spares
some_left stage user spares left holder h few inside = let less = left_less left holder inside in let enough = h.0 in omega (arith, less, few, enough)

length_more : (xs : List (List ℕ)) (x : List ℕ) → length (xs ++ x ∷ []) ≡ length xs + 1
length_more [] x = omega arith
length_more (y ∷ xs) x = let more = length_more xs x in omega (arith, more)

all_front : (P : List ℕ → Type 0) (xs : List (List ℕ)) (x : List ℕ) → All P (xs ++ x ∷ []) → All P xs × P x
all_front P [] x a = (All-nil P, All-head P x [] a)
all_front P (y ∷ xs) x a = let more = all_front P xs x (All-tail P y (xs ++ x ∷ []) a) in (All-cons P y xs (All-head P y (xs ++ x ∷ []) a) more.0, more.1)

-- one copy is taken, as one holder less is left
pub fewer_left : (stage : FetchStage) (user : List ℕ) (spares rest : List (List ℕ)) (one : List ℕ) (left holder : ℕ) → HasSpares stage user spares → spares ≡ rest ++ one ∷ [] → count_in left ≤ fetch_chances stage → has left holder ≡ true
    → HasSpares (AsksHolder holder (without_node left holder)) user rest
fewer_left stage user spares rest one left holder h is few inside =
    let less = left_less left holder inside in
    let enough = h.0 in
    let size : length spares ≡ length rest + 1 = ap (λ (l : List (List ℕ)). length l) is ∙ length_more rest one in
    (omega (arith, less, few, enough, size), (all_front (λ name. name ≡ user) rest one (subst (All (λ name. name ≡ user)) is h.1)).0)

pub all_but_one : (stage : FetchStage) (user : List ℕ) (spares rest : List (List ℕ)) (one : List ℕ) → HasSpares stage user spares → spares ≡ rest ++ one ∷ [] → one ≡ user
all_but_one stage user spares rest one h is = (all_front (λ name. name ≡ user) rest one (subst (All (λ name. name ≡ user)) is h.1)).1

-- the first of those that are left is one of them
first_among : (xs : List ℕ) (n : ℕ) → first_in xs ≡ Some n → Among n xs
first_among [] n e = absurd (cc e)
first_among (x ∷ xs) n e = inl (same x n e)
  where
    same : (a b : ℕ) → Some a ≡ Some b → a ≡ b
    same a b h = cc

pub first_inside : (own left n : ℕ) → Some n ≡ first_in (receivers own left 64) → has left n ≡ true
first_inside own left n e = (receiver_is own left 64 n (first_among (receivers own left 64) n (sym e))).0

-- whoever is left after a mishap was left before
pub left_after_fewer : (at left : ℕ) (stage : FetchStage) → Some left ≡ left_after at stage → count_in left ≤ fetch_chances stage
left_after_fewer at left (AsksHolder holder others) e = by (nat_eq at holder) e
  where
    same : (a b : ℕ) → Some a ≡ Some b → b ≡ a
    same a b h = cc

    by : (b : Bool) → Some left ≡ (if b then Some (without_node others at) else None) → count_in left ≤ count_in others
    by true k = subst (λ l. count_in l ≤ count_in others) (same left (without_node others at) k) (left_le others at)
    by false k = absurd (cc k)
left_after_fewer at left (IsAnswered by_ part) e = absurd (cc e)
left_after_fewer at left NobodyLeft e = absurd (cc e)
