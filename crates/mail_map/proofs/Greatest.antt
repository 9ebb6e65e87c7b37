-- That the fold over a user's rows finds the greatest profile.
use Rattle.std.proofs.Common.{◌≡◌, inl, inr, refl, sym, ap, subst, ◌∙◌, cond, Bool, true, false, true≢false, List, [], ◌∷◌, map, fold, Option, Some, None, is_some, unwrap_or}
use Rattle.std.specs.Ordering.{is_gt, is_eq, ordering_reverse}
use Rattle.std.specs.declared.cmp.Ordering.{Ordering}
use Rattle.std.specs.declared.cmp.Ordering.TheVariants.{Less, Equal, Greater}
use Rattle.std.specs.Cmp.{upto, tied_itself}
use Rattle.std.specs.List.{AllByRecursion}
use Rattle.std.specs.List.Sorted.{IsStrictlySortedBy}
use Rattle.std.specs.Map.{lookup, values_of}
use Rattle.std.specs.BTreeMap.{BTreeMap, is_at}
use Rattle.std.specs.BTreeMap as tree
use Rattle.object_model.specs.Letters.{Row}
use Rattle.object_model.specs.Lists.{Among}
use Rattle.mail_map.specs.Tellers.{Teller, teller_cmp, teller_total}
use Rattle.mail_map.specs.Rows.{row_of_teller}
use Rattle.mail_map.specs.Profiles.{Profile, profile_cmp, profile_total, IsGreatest, is_above, greater_of, profile_in}
use Rattle.mail_map.proofs.Retained.{same_teller}

below_chain : (a b c : Option Profile) → is_above a b ≡ false → is_above b c ≡ false → is_above a c ≡ false
below_chain None b c p q = refl
below_chain (Some x) None c p q = absurd (true≢false p)
below_chain (Some x) (Some y) None p q = absurd (true≢false q)
below_chain (Some x) (Some y) (Some z) p q = upto profile_total x y z p q

turned : (o : Ordering) → is_gt o ≡ true → is_gt (ordering_reverse o) ≡ false
turned Less e = absurd (true≢false (sym e))
turned Equal e = absurd (true≢false (sym e))
turned Greater e = refl

above_turned : (a b : Option Profile) → is_above a b ≡ true → is_above b a ≡ false
above_turned None b e = absurd (true≢false (sym e))
above_turned (Some x) None e = refl
above_turned (Some x) (Some y) e = ap is_gt (profile_total.antisymm y x) ∙ turned (profile_cmp x y) e

above_itself : (a : Option Profile) → is_above a a ≡ false
above_itself None = refl
above_itself (Some x) = ap is_gt (tied_itself profile_total x)

-- the row that the fold ends at: one of those, and none is above it
record IsBest (start : Row) (rows : List Row) : Type 0 where
  best : Row
  is : fold greater_of (Some start) rows ≡ Some best
  inside : Among best (start ∷ rows)
  greatest : (row : Row) → Among row (start ∷ rows) → is_above row.profile best.profile ≡ false

is_best : (start : Row) (rows : List Row) → IsBest start rows
is_best start [] = record {
  best = start;
  is = refl;
  inside = inl refl;
  greatest = first;
}
  where
    first : (row : Row) → Among row (start ∷ []) → is_above row.profile start.profile ≡ false
    first row (inl same) = subst (λ (r : Row). is_above r.profile start.profile ≡ false) same (above_itself start.profile)
    first row (inr none) = absurd none
is_best start (row ∷ rows) = by (is_above row.profile start.profile) refl (is_best row rows) (is_best start rows)
  where
    by : (t : Bool) → is_above row.profile start.profile ≡ t → IsBest row rows → IsBest start rows → IsBest start (row ∷ rows)
    by true e with_row with_start = record {
      best = with_row.best;
      is = ap (λ t. fold greater_of (cond t (Some row) (Some start)) rows) e ∙ with_row.is;
      inside = inr with_row.inside;
      greatest = each;
    }
      where
        each : (r : Row) → Among r (start ∷ row ∷ rows) → is_above r.profile with_row.best.profile ≡ false
        each r (inl same) = subst (λ (x : Row). is_above x.profile with_row.best.profile ≡ false) same (below_chain start.profile row.profile with_row.best.profile (above_turned row.profile start.profile e) (with_row.greatest row (inl refl)))
        each r (inr later) = with_row.greatest r later
    by false e with_row with_start = record {
      best = with_start.best;
      is = ap (λ t. fold greater_of (cond t (Some row) (Some start)) rows) e ∙ with_start.is;
      inside = over with_start.inside;
      greatest = each;
    }
      where
        over : Among with_start.best (start ∷ rows) → Among with_start.best (start ∷ row ∷ rows)
        over (inl same) = inl same
        over (inr later) = inr (inr later)

        each : (r : Row) → Among r (start ∷ row ∷ rows) → is_above r.profile with_start.best.profile ≡ false
        each r (inl same) = with_start.greatest r (inl same)
        each r (inr (inl same)) = subst (λ (x : Row). is_above x.profile with_start.best.profile ≡ false) same (below_chain row.profile start.profile with_start.best.profile e (with_start.greatest start (inl refl)))
        each r (inr (inr later)) = with_start.greatest r (inr later)

-- what a look-up finds is among the values
found_among : (test : Teller → Bool) (es : List (Teller × Row)) (row : Row) → lookup test es ≡ Some row → Among row (values_of es)
found_among test [] row e = absurd (true≢false (sym (ap is_some e)))
found_among test (entry ∷ es) row e = by (test entry.0) refl (found_among test es row)
  where
    by : (t : Bool) → test entry.0 ≡ t → (lookup test es ≡ Some row → Among row (values_of es)) → Among row (entry.1 ∷ values_of es)
    by true at later = inl (ap (λ o. unwrap_or o row) (sym (ap (λ t. cond t (Some entry.1) (lookup test es)) at) ∙ e))
    by false at later = inr (later (sym (ap (λ t. cond t (Some entry.1) (lookup test es)) at) ∙ e))

absent : (k : Teller) (es : List (Teller × Row)) → AllByRecursion (λ y. teller_cmp k y ≡ Less) (map (λ e. e.0) es) → lookup (is_at (teller_cmp k)) es ≡ None
absent k [] h = refl
absent k (e ∷ es) h = rw h.0 (absent k es h.1)

record FoundAt (es : List (Teller × Row)) (row : Row) : Type 0 where
  key : Teller
  is : lookup (is_at (teller_cmp key)) es ≡ Some row

-- each value is found under its key
among_found : (es : List (Teller × Row)) (row : Row) → IsStrictlySortedBy teller_cmp (map (λ e. e.0) es) → Among row (values_of es) → FoundAt es row
unfolding IsStrictlySortedBy
among_found [] row sorted none = absurd none
among_found (e ∷ es) row sorted (inl same) = record { key = e.0; is = ap (λ o. cond (is_eq o) (Some e.1) (lookup (is_at (teller_cmp e.0)) es)) (tied_itself teller_total e.0) ∙ ap (λ (r : Row). Some r) same }
among_found (e ∷ es) row sorted (inr later) = by (among_found es row sorted.1 later)
  where
    by : FoundAt es row → FoundAt (e ∷ es) row
    by found = at (is_at (teller_cmp found.key) e.0) refl
      where
        at : (t : Bool) → is_at (teller_cmp found.key) e.0 ≡ t → FoundAt (e ∷ es) row
        at false apart = record { key = found.key; is = ap (λ t. cond t (Some e.1) (lookup (is_at (teller_cmp found.key)) es)) apart ∙ found.is }
        at true same = absurd (true≢false (sym (ap is_some (sym (subst (λ (k : Teller). lookup (is_at (teller_cmp k)) es ≡ None) (sym (same_teller found.key e.0 same)) (absent e.0 es sorted.0)) ∙ found.is))))

none_above : (a : Option Profile) → is_above a None ≡ false → a ≡ None
none_above None e = refl
none_above (Some p) e = absurd (true≢false e)

pub greatest_is : (rows : BTreeMap Teller Row) → tree.IsOrdered teller_cmp rows → IsGreatest (λ n boot. row_of_teller (Some rows) n boot) (profile_in (fold greater_of None (tree.values rows)))
greatest_is rows ordered = by rows.entries refl
  where
    by : (es : List (Teller × Row)) → rows.entries ≡ es → IsGreatest (λ n boot. row_of_teller (Some rows) n boot) (profile_in (fold greater_of None (values_of rows.entries)))
    by [] is = subst (λ (l : List (Teller × Row)). IsGreatest (λ n boot. lookup (is_at (teller_cmp (record { node = n; boot = boot }))) l) (profile_in (fold greater_of None (values_of l)))) (sym is)
        (λ n k row e. absurd (true≢false (sym (ap is_some e))))
    by (e ∷ es) is = subst (λ (l : List (Teller × Row)). IsGreatest (λ n boot. lookup (is_at (teller_cmp (record { node = n; boot = boot }))) l) (profile_in (fold greater_of None (values_of l)))) (sym is)
        (of (is_best e.1 (values_of es)))
      where
        sorted : IsStrictlySortedBy teller_cmp (map (λ e. e.0) (e ∷ es))
        sorted = subst (λ (l : List (Teller × Row)). IsStrictlySortedBy teller_cmp (map (λ e. e.0) l)) is ordered

        of : IsBest e.1 (values_of es) → IsGreatest (λ n boot. lookup (is_at (teller_cmp (record { node = n; boot = boot }))) (e ∷ es)) (profile_in (fold greater_of (Some e.1) (values_of es)))
        of found = subst (λ (o : Option Row). IsGreatest (λ n boot. lookup (is_at (teller_cmp (record { node = n; boot = boot }))) (e ∷ es)) (profile_in o)) (sym found.is) (at found.best.profile refl)
          where
            at : (p : Option Profile) → found.best.profile ≡ p → IsGreatest (λ n boot. lookup (is_at (teller_cmp (record { node = n; boot = boot }))) (e ∷ es)) found.best.profile
            at None has = subst (IsGreatest (λ n boot. lookup (is_at (teller_cmp (record { node = n; boot = boot }))) (e ∷ es))) (sym has)
                (λ n k row stands. none_above row.profile (ap (is_above row.profile) (sym has) ∙ found.greatest row (found_among (is_at (teller_cmp (record { node = n; boot = k }))) (e ∷ es) row stands)))
            at (Some p) has = subst (IsGreatest (λ n boot. lookup (is_at (teller_cmp (record { node = n; boot = boot }))) (e ∷ es))) (sym has)
                (let place = among_found (e ∷ es) found.best sorted found.inside in
                record {
                  node = place.key.node;
                  boot = place.key.boot;
                  row = found.best;
                  stands = place.is;
                  has = has;
                  greatest = λ n k other lesser stands is.
                      ap (λ (a : Option Profile). is_above a (Some p)) (sym is) ∙ ap (is_above other.profile) (sym has) ∙ found.greatest other (found_among (is_at (teller_cmp (record { node = n; boot = k }))) (e ∷ es) other stands);
                })

-- of a user without rows nothing is known
pub none_is : IsGreatest (λ n boot. row_of_teller None n boot) None
none_is n k row e = absurd (true≢false (sym (ap is_some e)))

-- what a user's rows were found to have as the greatest
pub greatest_at : (rows : BTreeMap Teller Row) (held : Option (BTreeMap Teller Row)) (profile : Option Profile) → Some rows ≡ held → profile ≡ profile_in (fold greater_of None (tree.values rows)) → tree.IsOrdered teller_cmp rows
    → IsGreatest (λ n boot. row_of_teller held n boot) profile
greatest_at rows held profile found is ordered =
    subst (λ (o : Option (BTreeMap Teller Row)). IsGreatest (λ n boot. row_of_teller o n boot) profile) found
    (subst (IsGreatest (λ n boot. row_of_teller (Some rows) n boot)) (sym is) (greatest_is rows ordered))
