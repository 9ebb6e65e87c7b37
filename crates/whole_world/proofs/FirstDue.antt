-- The first of those that are due, in order of names: who goes through all in that order finds them, and they are one list.
use Rattle.std.proofs.Common.{◌≡◌, ◌⊎◌, inl, inr, ⊎_elim, ℕ, zero, suc, ◌≤◌, Bool, true, false, ◌&&◌, cond, List, [], ◌∷◌, length, take, refl, sym, ap, ◌∙◌, subst, true≢false, arith}
use Rattle.std.proofs.lemmas.Bool.{and_parts}
use Rattle.std.specs.Cmp.{tied_itself}
use Rattle.std.specs.Cmp.Lexicographic.{slice_cmp, nat_list_cmp_total}
use Rattle.std.specs.FinMap.{slice_cmp-IsAntisymmetric, nat_cmp-IsAntisymmetric}
use Rattle.std.specs.List.{filter}
use Rattle.std.specs.List.Sorted.{IsStrictlySortedBy}
use Rattle.std.specs.Ordering.{nat_cmp, ordering_reverse}
use Rattle.std.specs.declared.cmp.Ordering.{Ordering}
use Rattle.std.specs.declared.cmp.Ordering.TheVariants.{Less, Equal, Greater}
use Rattle.object_model.specs.Lists.{Among}
use Rattle.maps_model.specs.Cluster as maps
use Rattle.whole_world.specs.Steps.{is_due, AreFirstDue}
use Rattle.whole_world.specs.Reporting.{AreMarked}

-- names in order
abbrev names_cmp : List ℕ → List ℕ → Ordering
names_cmp = slice_cmp nat_cmp

abbrev IsBefore : List ℕ → List ℕ → Type 0
IsBefore a b = names_cmp a b ≡ Less

not_itself : (a b : List ℕ) → a ≡ b → IsBefore a b → ⊥
not_itself a b e less = clash (sym (ap (names_cmp a) (sym e) ∙ tied_itself nat_list_cmp_total a) ∙ less)
  where
    clash : Equal ≡ Less → ⊥
    clash h = cc

not_both : (a b : List ℕ) → IsBefore a b → IsBefore b a → ⊥
not_both a b p q = clash (sym p ∙ nat_list_cmp_total.antisymm a b ∙ ap ordering_reverse q)
  where
    clash : Less ≡ Greater → ⊥
    clash h = cc

sorted_none : IsStrictlySortedBy names_cmp []
unfolding IsStrictlySortedBy
sorted_none = tt

sorted_rest : (x : List ℕ) (xs : List (List ℕ)) → IsStrictlySortedBy names_cmp (x ∷ xs) → IsStrictlySortedBy names_cmp xs
unfolding IsStrictlySortedBy
sorted_rest x xs s = s.1

sorted_first : (x : List ℕ) (xs : List (List ℕ)) → IsStrictlySortedBy names_cmp (x ∷ xs) → (u : List ℕ) → Among u xs → IsBefore x u
unfolding IsStrictlySortedBy
sorted_first x [] s u m = absurd m
sorted_first x (y ∷ xs) s u m = ⊎_elim
    (λ is. subst (IsBefore x) is s.0.0)
    (λ later. sorted_first x xs (s.0.1, s.1.1) u later)
    m

sorted_more : (x : List ℕ) (xs : List (List ℕ)) → ((u : List ℕ) → Among u xs → IsBefore x u) → IsStrictlySortedBy names_cmp xs → IsStrictlySortedBy names_cmp (x ∷ xs)
unfolding IsStrictlySortedBy
sorted_more x [] below s = (tt, tt)
sorted_more x (y ∷ xs) below s =
    let rest = sorted_more x xs (λ u m. below u (inr m)) s.1 in
    ((below y (inl refl), rest.0), s)

-- the first of those of which something holds
record Firsts (P : List ℕ → Type 0) (most : ℕ) (users : List (List ℕ)) : Type 0 where
  due : (user : List ℕ) → Among user users → P user
  in_order : IsStrictlySortedBy names_cmp users
  few : length users ≤ most
  others : (user : List ℕ) → P user → Among user users ⊎ ((length users ≡ most) × ((one : List ℕ) → Among one users → IsBefore one user))

-- nobody else is before the first
none_before : (P : List ℕ → Type 0) (most : ℕ) (x y : List ℕ) (b : List (List ℕ)) → Firsts P most (y ∷ b) → P x → IsBefore x y → ⊥
none_before P most x y b q due less = ⊎_elim
    (λ m. ⊎_elim (λ is. not_itself x y (sym is) less) (λ later. not_both x y less (sorted_first y b q.in_order x later)) m)
    (λ past. not_both x y less (past.1 y (inl refl)))
    (q.others x due)

one_first : (P : List ℕ → Type 0) (most : ℕ) (x y : List ℕ) (a b : List (List ℕ)) → Firsts P most (x ∷ a) → Firsts P most (y ∷ b) → x ≡ y
one_first P most x y a b p q = by (names_cmp x y) refl
  where
    by : (o : Ordering) → names_cmp x y ≡ o → x ≡ y
    by Less e = absurd (none_before P most x y b q (p.due x (inl refl)) e)
    by Equal e = slice_cmp-IsAntisymmetric nat_cmp-IsAntisymmetric x y e
    by Greater e = absurd (none_before P most y x a p (q.due y (inl refl)) (nat_list_cmp_total.antisymm y x ∙ ap ordering_reverse e))

rest_of : (P : List ℕ → Type 0) (most : ℕ) (x : List ℕ) (a : List (List ℕ)) → Firsts P (suc most) (x ∷ a) → Firsts (λ u. P u × IsBefore x u) most a
rest_of P most x a p = record {
  due = λ user m. (p.due user (inr m), sorted_first x a p.in_order user m);
  in_order = sorted_rest x a p.in_order;
  few = less (length a) most p.few;
  others = λ user due. ⊎_elim
      (λ m. ⊎_elim (λ is. absurd (not_itself x user is due.1)) (λ later. inl later) m)
      (λ past. inr (same (length a) most past.0, λ one m. past.1 one (inr m)))
      (p.others user due.0);
}
  where
    less : (n m : ℕ) → suc n ≤ suc m → n ≤ m
    less n m e = omega (arith, e)

    same : (n m : ℕ) → suc n ≡ suc m → n ≡ m
    same n m e = omega (arith, e)

none_more : (P : List ℕ → Type 0) (most : ℕ) (x : List ℕ) (a : List (List ℕ)) → Firsts P most (x ∷ a) → Firsts P most [] → ⊥
none_more P most x a p q = ⊎_elim (λ m. m) (λ past. full (length a) most p.few past.0) (q.others x (p.due x (inl refl)))
  where
    full : (n m : ℕ) → suc n ≤ m → 0 ≡ m → ⊥
    full n m e f = omega (arith, e, f)

one_list : (P : List ℕ → Type 0) (most : ℕ) (a b : List (List ℕ)) → Firsts P most a → Firsts P most b → a ≡ b
one_list P most [] [] p q = refl
one_list P most (x ∷ a) [] p q = absurd (none_more P most x a p q)
one_list P most [] (y ∷ b) p q = absurd (none_more P most y b q p)
one_list P zero (x ∷ a) (y ∷ b) p q = absurd (omega (arith, p.few))
one_list P (suc most) (x ∷ a) (y ∷ b) p q =
    let same : x ≡ y = one_first P (suc most) x y a b p q in
    let rest : a ≡ b = one_list (λ u. P u × IsBefore x u) most a b (rest_of P most x a p) (rest_of P most x b (subst (λ z. Firsts P (suc most) (z ∷ b)) (sym same) q)) in
    λ i. same i ∷ rest i

-- who goes through a list that is in order
found : (f : List ℕ → Bool) (most : ℕ) (users : List (List ℕ)) → IsStrictlySortedBy names_cmp users → Firsts (λ u. Among u users × (f u ≡ true)) most (take most (filter f users))
found f zero users s = record { due = λ user m. absurd m; in_order = sorted_none; few = omega arith; others = λ user due. inr (refl, λ one m. absurd m) }
found f (suc most) [] s = record { due = λ user m. absurd m; in_order = sorted_none; few = omega arith; others = λ user due. absurd due.0 }
found f (suc most) (x ∷ users) s = by (f x) refl (found f most users (sorted_rest x users s)) (found f (suc most) users (sorted_rest x users s))
  where
    Whole : List (List ℕ) → Type 0
    Whole = Firsts (λ u. Among u (x ∷ users) × (f u ≡ true)) (suc most)

    by : (b : Bool) → f x ≡ b → Firsts (λ u. Among u users × (f u ≡ true)) most (take most (filter f users)) → Firsts (λ u. Among u users × (f u ≡ true)) (suc most) (take (suc most) (filter f users))
        → Whole (take (suc most) (cond b (x ∷ filter f users) (filter f users)))
    by true h r others = record {
      due = λ user m. ⊎_elim (λ is. (inl is, subst (λ u. f u ≡ true) is h)) (λ later. (inr (r.due user later).0, (r.due user later).1)) m;
      in_order = sorted_more x (take most (filter f users)) (λ u m. sorted_first x users s u (r.due u m).0) r.in_order;
      few = more (length (take most (filter f users))) most r.few;
      others = λ user due. ⊎_elim
          (λ is. inl (inl is))
          (λ later. ⊎_elim
          (λ m. inl (inr m))
          (λ past. inr (ap suc past.0, λ one m. ⊎_elim (λ is. subst (λ u. IsBefore u user) is (sorted_first x users s user later)) (λ k. past.1 one k) m))
          (r.others user (later, due.1)))
          due.0;
    }
      where
        more : (n m : ℕ) → n ≤ m → suc n ≤ suc m
        more n m e = omega (arith, e)
    by false h rest r = record {
      due = λ user m. (inr (r.due user m).0, (r.due user m).1);
      in_order = r.in_order;
      few = r.few;
      others = λ user due. ⊎_elim
          (λ is. absurd (true≢false (sym due.1 ∙ subst (λ u. f u ≡ false) is h)))
          (λ later. r.others user (later, due.1))
          due.0;
    }

-- so it is with rows that are due
pub found_due : (to most : ℕ) (node : maps.Node) (users : List (List ℕ)) → AreMarked node users → AreFirstDue to most node (take most (filter (maps.manages_in node.installed to) users))
found_due to most node users marked =
    let r = found (maps.manages_in node.installed to) most users marked.in_order in record {
      due = λ user m. both (node.marked user) (maps.manages_in node.installed to user) ((marked.all user).1 (r.due user m).0) (r.due user m).1;
      in_order = r.in_order;
      few = r.few;
      others = λ user due. let parts = and_parts (node.marked user) (maps.manages_in node.installed to user) due in r.others user ((marked.all user).0 parts.0, parts.1);
    }
  where
    both : (a b : Bool) → a ≡ true → b ≡ true → (a && b) ≡ true
    both true b p q = q
    both false b p q = absurd (true≢false (sym p))

pub due_are_one : (to most : ℕ) (node : maps.Node) (a b : List (List ℕ)) → AreFirstDue to most node a → AreFirstDue to most node b → a ≡ b
due_are_one to most node a b p q = one_list (λ u. is_due to node u ≡ true) most a b (firsts a p) (firsts b q)
  where
    firsts : (users : List (List ℕ)) → AreFirstDue to most node users → Firsts (λ u. is_due to node u ≡ true) most users
    firsts users r = record { due = r.due; in_order = r.in_order; few = r.few; others = r.others }
