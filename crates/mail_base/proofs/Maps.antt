-- A `BTreeMap`'s entries as a finite map, under any total order in which only equal keys tie.
use Rattle.std.proofs.Common.{◌≡◌, ◌+◌, refl, sym, ap, ◌∙◌, cond, List, [], ◌∷◌, map, length, Some, None, is_some, add-one}
use Rattle.std.specs.List.{AllByRecursion}
use Rattle.std.specs.List.Sorted.{IsStrictlySortedBy}
use Rattle.std.specs.declared.cmp.Ordering.TheVariants.{Less}
use Rattle.std.specs.declared.cmp.Ordering.{Ordering}
use Rattle.std.specs.Cmp.{IsTotalOrder, eq_by_cmp_equiv}
use Rattle.std.specs.Map.{lookup}
use Rattle.std.specs.BTreeMap.{is_at}
use Rattle.std.specs.FinMap.{IsAntisymmetric, get, insert, remove, from_entries, find, len, len-empty, len-insert, get-from_entries, get-insert, get-remove, same_map}

module _ {K X : Type 0} (R : K → K → Ordering) where
  find_lookup : (es : List (K × X)) (q : K) → find R q es ≡ lookup (is_at (R q)) es
  find_lookup [] q = refl
  find_lookup (e ∷ es) q = ap (cond (is_at (R q) e.0) (Some e.1)) (find_lookup es q)

  module _ (total : IsTotalOrder R) where
    -- what a lookup answers
    pub get_by_lookup : (es : List (K × X)) (q : K) → get (from_entries {R = R} es) q ≡ lookup (is_at (R q)) es
    get_by_lookup es q = get-from_entries total es q ∙ find_lookup es q

    -- entries that differ at one key make maps that differ there
    pub one_set : (exact : IsAntisymmetric R) (es fs : List (K × X)) (k : K) (v : X)
        → ((q : K) → lookup (is_at (R q)) fs ≡ cond (is_at (R k) q) (Some v) (lookup (is_at (R q)) es))
        → from_entries {R = R} fs ≡ insert (from_entries es) k v
    one_set exact es fs k v h = same_map total exact _ _ (λ q.
        get_by_lookup fs q ∙ h q ∙ ap (λ b. cond b (Some v) (lookup (is_at (R q)) es)) ((eq_by_cmp_equiv total).symm k q)
        ∙ sym (get-insert total (from_entries es) k v q ∙ ap (cond (is_at (R q) k) (Some v)) (get_by_lookup es q)))

    -- entries that lack one key make a map that lacks it
    pub one_unset : (exact : IsAntisymmetric R) (es fs : List (K × X)) (k : K)
        → ((q : K) → lookup (is_at (R q)) fs ≡ cond (is_at (R k) q) None (lookup (is_at (R q)) es))
        → from_entries {R = R} fs ≡ remove (from_entries es) k
    one_unset exact es fs k h = same_map total exact _ _ (λ q.
        get_by_lookup fs q ∙ h q ∙ ap (λ b. cond b None (lookup (is_at (R q)) es)) ((eq_by_cmp_equiv total).symm k q)
        ∙ sym (get-remove total (from_entries es) k q ∙ ap (cond (is_at (R q) k) None) (get_by_lookup es q)))

    -- what a map with its keys in order counts
    absent : (k : K) (es : List (K × X)) → AllByRecursion (λ y. R k y ≡ Less) (map (λ e. e.0) es) → find R k es ≡ None
    absent k [] h = refl
    absent k (e ∷ es) h = rw h.0 (absent k es h.1)

    pub len-from_entries : (es : List (K × X)) → IsStrictlySortedBy R (map (λ e. e.0) es) → len (from_entries {R = R} es) ≡ length es
    unfolding IsStrictlySortedBy
    len-from_entries [] h = len-empty R X
    len-from_entries (e ∷ es) h =
        let new : get (from_entries {R = R} es) e.0 ≡ None = get-from_entries total es e.0 ∙ absent e.0 es h.0 in
        let more : len (insert (from_entries {R = R} es) e.0 e.1) ≡ cond (is_some (get (from_entries {R = R} es) e.0)) (len (from_entries {R = R} es)) (len (from_entries {R = R} es) + 1) = len-insert total (from_entries es) e.0 e.1 in
        more ∙ ap (λ r. cond (is_some r) (len (from_entries {R = R} es)) (len (from_entries {R = R} es) + 1)) new ∙ ap (λ n. n + 1) (len-from_entries es h.1) ∙ add-one (length es)
