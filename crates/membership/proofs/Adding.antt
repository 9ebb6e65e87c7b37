-- A join among others, in the order of nodes.
use Rattle.std.proofs.Common.{◌≡◌, ℕ, zero, suc, ◌+◌, ◌<◌, ◌≤◌, Bool, true, false, nat_lt, List, [], ◌∷◌, length, refl, sym, ap, ◌∙◌, true≢false, arith, if◌then◌else◌}
use Rattle.std.specs.Prelude.{slice_get, slice_set}
use Rattle.std.specs.List.{prefix_len, insert}
use Rattle.std.proofs.lemmas.Bool.{eqb-true, eqb-false, ltb-true, ltb-false, lt-ltb}
use Rattle.std.proofs.lemmas.List.Sums.{prefix_len-le-length}
use Rattle.maps_model.specs.Cluster.{Joined}
use Rattle.maps_model.specs.Rules.{with_join}
use Rattle.membership.specs.Checks.{is_lower, is_same_node, is_earlier}

if_some : (t : Bool) (a b : List Joined) → 0 < length a → 0 < length b → 0 < length (if t then a else b)
if_some true a b p q = p
if_some false a b p q = q

pub some_joined : (new : Joined) (xs : List Joined) → 0 < length (with_join new xs)
some_joined new [] = omega arith
some_joined new (old ∷ olds) =
    if_some (nat_lt new.member.node old.member.node) (new ∷ old ∷ olds) _ (omega arith)
    (if_some (nat_lt old.member.node new.member.node) (old ∷ with_join new olds) _ (omega arith)
    (if_some (nat_lt old.member.boot new.member.boot) (new ∷ olds) (old ∷ olds) (omega arith) (omega arith)))

not_less : (a b : ℕ) → b ≤ a → nat_lt a b ≡ false
not_less a b le = test (nat_lt a b) refl
  where
    test : (t : Bool) → nat_lt a b ≡ t → t ≡ false
    test false e = refl
    test true e = absurd (omega (arith, le, ltb-true a b e))

module _ (new : Joined) where
  after : (old : Joined) (olds : List Joined) → old.member.node < new.member.node → with_join new (old ∷ olds) ≡ old ∷ with_join new olds
  after old olds lt =
      ap (λ (t : Bool). if t then new ∷ old ∷ olds else if nat_lt old.member.node new.member.node then old ∷ with_join new olds else if nat_lt old.member.boot new.member.boot then new ∷ olds else old ∷ olds)
      (not_less new.member.node old.member.node (omega (arith, lt)))
      ∙ ap (λ (t : Bool). if t then old ∷ with_join new olds else if nat_lt old.member.boot new.member.boot then new ∷ olds else old ∷ olds) (lt-ltb old.member.node new.member.node lt)

  before : (old : Joined) (olds : List Joined) → new.member.node < old.member.node → with_join new (old ∷ olds) ≡ new ∷ old ∷ olds
  before old olds lt =
      ap (λ (t : Bool). if t then new ∷ old ∷ olds else if nat_lt old.member.node new.member.node then old ∷ with_join new olds else if nat_lt old.member.boot new.member.boot then new ∷ olds else old ∷ olds)
      (lt-ltb new.member.node old.member.node lt)

  beside : (old : Joined) (olds : List Joined) → old.member.node ≡ new.member.node → with_join new (old ∷ olds) ≡ (if nat_lt old.member.boot new.member.boot then new ∷ olds else old ∷ olds)
  beside old olds same =
      ap (λ (t : Bool). if t then new ∷ old ∷ olds else if nat_lt old.member.node new.member.node then old ∷ with_join new olds else if nat_lt old.member.boot new.member.boot then new ∷ olds else old ∷ olds)
      (not_less new.member.node old.member.node (omega (arith, same)))
      ∙ ap (λ (t : Bool). if t then old ∷ with_join new olds else if nat_lt old.member.boot new.member.boot then new ∷ olds else old ∷ olds) (not_less old.member.node new.member.node (omega (arith, same)))

  -- the place of the first join that is not lower
  first_upper : (old : Joined) (olds : List Joined) → 0 ≡ prefix_len (is_lower new) (old ∷ olds) → new.member.node ≤ old.member.node
  first_upper old olds e = test (is_lower new old) refl e
    where
      test : (t : Bool) → is_lower new old ≡ t → 0 ≡ (if t then 1 + prefix_len (is_lower new) olds else 0) → new.member.node ≤ old.member.node
      test true h e = absurd (omega (arith, e))
      test false h e = ltb-false old.member.node new.member.node h

  later_upper : (old : Joined) (olds : List Joined) (k : ℕ) → suc k ≡ prefix_len (is_lower new) (old ∷ olds) → (old.member.node < new.member.node) × (k ≡ prefix_len (is_lower new) olds)
  later_upper old olds k e = test (is_lower new old) refl e
    where
      test : (t : Bool) → is_lower new old ≡ t → suc k ≡ (if t then 1 + prefix_len (is_lower new) olds else 0) → (old.member.node < new.member.node) × (k ≡ prefix_len (is_lower new) olds)
      test true h e = (ltb-true old.member.node new.member.node h, omega (arith, e))
      test false h e = absurd (omega (arith, e))

pub lower_within : (new : Joined) (xs : List Joined) (k : ℕ) → k ≡ prefix_len (is_lower new) xs → k ≤ length xs
lower_within new xs k e = omega (arith, e, prefix_len-le-length (is_lower new) xs)

pub same_within : (new : Joined) (xs : List Joined) (k : ℕ) → is_same_node new (slice_get xs k) ≡ true → k < length xs
same_within new [] k e = absurd (true≢false (sym e))
same_within new (old ∷ olds) zero e = omega arith
same_within new (old ∷ olds) (suc k) e = let h = same_within new olds k e in omega (arith, h)

pub added_new : (new : Joined) (xs : List Joined) (k : ℕ) → k ≡ prefix_len (is_lower new) xs → is_same_node new (slice_get xs k) ≡ false → with_join new xs ≡ insert xs k new
added_new new [] zero e f = refl
added_new new [] (suc k) e f = absurd (omega (arith, e))
added_new new (old ∷ olds) zero e f = before new old olds (omega (arith, first_upper new old olds e, eqb-false old.member.node new.member.node f))
added_new new (old ∷ olds) (suc k) e f = let h = later_upper new old olds k e in after new old olds h.0 ∙ ap (λ (rest : List Joined). old ∷ rest) (added_new new olds k h.1 f)

pub added_later : (new : Joined) (xs : List Joined) (k : ℕ) → k ≡ prefix_len (is_lower new) xs → is_same_node new (slice_get xs k) ≡ true → is_earlier new (slice_get xs k) ≡ true → with_join new xs ≡ slice_set xs k new
added_later new [] k e f g = absurd (true≢false (sym f))
added_later new (old ∷ olds) zero e f g = beside new old olds (eqb-true old.member.node new.member.node f) ∙ ap (λ (t : Bool). if t then new ∷ olds else old ∷ olds) g
added_later new (old ∷ olds) (suc k) e f g = let h = later_upper new old olds k e in after new old olds h.0 ∙ ap (λ (rest : List Joined). old ∷ rest) (added_later new olds k h.1 f g)

pub added_not : (new : Joined) (xs : List Joined) (k : ℕ) → k ≡ prefix_len (is_lower new) xs → is_same_node new (slice_get xs k) ≡ true → is_earlier new (slice_get xs k) ≡ false → with_join new xs ≡ xs
added_not new [] k e f g = absurd (true≢false (sym f))
added_not new (old ∷ olds) zero e f g = beside new old olds (eqb-true old.member.node new.member.node f) ∙ ap (λ (t : Bool). if t then new ∷ olds else old ∷ olds) g
added_not new (old ∷ olds) (suc k) e f g = let h = later_upper new old olds k e in after new old olds h.0 ∙ ap (λ (rest : List Joined). old ∷ rest) (added_not new olds k h.1 f g)
