-- What calls of a `BTreeMap` under the code's keys do to the finite map that it is seen as.
use Rattle.std.proofs.Common.{◌≡◌, refl, sym, ap, ◌∙◌, subst, cond, List, [], ◌∷◌, map, length, Option, Some, None, arith}
use Rattle.std.specs.List.{AllByRecursion}
use Rattle.std.specs.List.Sorted.{IsStrictlySortedBy}
use Rattle.std.specs.declared.cmp.Ordering.TheVariants.{Less}
use Rattle.std.specs.Cmp.{eq_by_cmp_equiv}
use Rattle.std.specs.Map.{lookup}
use Rattle.std.specs.BTreeMap.{is_at}
use Rattle.std.specs.FinMap.{FinMap, get, insert, remove, entries, empty, len-empty, len-entries, entries-insert, get-insert, get-remove, same_map}
use Rattle.std.specs.FinMap.Entries.{put, by_order}
use Rattle.mail_model.specs.Identity as plain
use Rattle.object_model.specs.Keys.{key_cmp}
use Rattle.object_model.proofs.MapLaws.{key_total, key_exact}
use Rattle.mail_base.specs.declared.key.Key.{Key}
use Rattle.mail_base.specs.declared.key.Key.TheVariants.{Profile, Message}
use Rattle.mail_base.specs.Seen.{key_seen}
use Rattle.mail_base.specs.KeyOrder.{seen_cmp}
use Rattle.mail_base.specs.KeyMaps.{entries_seen, map_seen}
use Rattle.mail_base.proofs.Maps.{get_by_lookup}

-- the code's key that stands for a key
pub key_for : plain.Key → Key
key_for (plain.Key.Profile user) = Profile user
key_for (plain.Key.Message user id) = Message user id

pub stands_for : (k : plain.Key) → key_seen (key_for k) ≡ k
unfolding key_for
stands_for (plain.Key.Profile user) = refl
stands_for (plain.Key.Message user id) = refl

module _ {X : Type 0} where
  -- what a map's entries have at a key
  abbrev pub at_key : List (Key × X) → Key → Option X
  at_key es q = lookup (is_at (seen_cmp q)) es

  lookup_seen : (es : List (Key × X)) (q : Key) → lookup (is_at (key_cmp (key_seen q))) (entries_seen es) ≡ at_key es q
  lookup_seen [] q = refl
  lookup_seen (e ∷ es) q = ap (cond (is_at (seen_cmp q) e.0) (Some e.1)) (lookup_seen es q)

  pub get_key : (es : List (Key × X)) (q : Key) → get (map_seen es) (key_seen q) ≡ at_key es q
  get_key es q = get_by_lookup key_cmp key_total (entries_seen es) (key_seen q) ∙ lookup_seen es q

  -- what `get` or `remove` answered is what the map had
  pub key_found : (es : List (Key × X)) (m : FinMap key_cmp X) (k : Key) (r : Option X) → map_seen es ≡ m → r ≡ at_key es k → r ≡ get m (key_seen k)
  key_found es m k r is read = read ∙ sym (get_key es k) ∙ ap (λ n. get n (key_seen k)) is

  -- two maps that have the same at each key
  same_at_keys : (m n : FinMap key_cmp X) → ((q : Key) → get m (key_seen q) ≡ get n (key_seen q)) → m ≡ n
  same_at_keys m n h = same_map key_total key_exact m n (λ p. subst (λ (k : plain.Key). get m k ≡ get n k) (stands_for p) (h (key_for p)))

  pub key_put : (es fs : List (Key × X)) (m : FinMap key_cmp X) (k : Key) (x : X) → map_seen es ≡ m
      → ((q : Key) → at_key fs q ≡ cond (is_at (seen_cmp k) q) (Some x) (at_key es q)) → map_seen fs ≡ insert m (key_seen k) x
  key_put es fs m k x is up = same_at_keys (map_seen fs) (insert (map_seen es) (key_seen k) x) (λ q.
      get_key fs q ∙ up q ∙ ap (λ b. cond b (Some x) (at_key es q)) ((eq_by_cmp_equiv key_total).symm (key_seen k) (key_seen q))
      ∙ sym (get-insert key_total (map_seen es) (key_seen k) x (key_seen q) ∙ ap (cond (is_at (seen_cmp q) k) (Some x)) (get_key es q))) ∙ ap (λ n. insert n (key_seen k) x) is

  pub key_removed : (es fs : List (Key × X)) (m : FinMap key_cmp X) (k : Key) → map_seen es ≡ m
      → ((q : Key) → at_key fs q ≡ cond (is_at (seen_cmp k) q) None (at_key es q)) → map_seen fs ≡ remove m (key_seen k)
  key_removed es fs m k is up = same_at_keys (map_seen fs) (remove (map_seen es) (key_seen k)) (λ q.
      get_key fs q ∙ up q ∙ ap (λ b. cond b None (at_key es q)) ((eq_by_cmp_equiv key_total).symm (key_seen k) (key_seen q))
      ∙ sym (get-remove key_total (map_seen es) (key_seen k) (key_seen q) ∙ ap (cond (is_at (seen_cmp q) k) None) (get_key es q))) ∙ ap (λ n. remove n (key_seen k)) is

  no_items : (es : List (plain.Key × X)) → length es ≡ 0 → es ≡ []
  no_items [] h = refl
  no_items (e ∷ es) h = absurd (omega (arith, h))

  -- the entries of a map in the order of its keys
  put_first : (e : Key × X) (es : List (Key × X)) → AllByRecursion (λ y. seen_cmp e.0 y ≡ Less) (map (λ f. f.0) es)
      → put key_cmp (key_seen e.0) e.1 (entries_seen es) ≡ entries_seen (e ∷ es)
  put_first e [] h = refl
  put_first e (f ∷ fs) h = ap (λ o. by_order o ((key_seen e.0, e.1) ∷ entries_seen (f ∷ fs)) ((key_seen f.0, e.1) ∷ entries_seen fs) ((key_seen f.0, f.1) ∷ put key_cmp (key_seen e.0) e.1 (entries_seen fs))) h.0

  pub entries_in_order : (es : List (Key × X)) → IsStrictlySortedBy seen_cmp (map (λ e. e.0) es) → entries (map_seen es) ≡ entries_seen es
  unfolding IsStrictlySortedBy
  entries_in_order [] h = no_items (entries (empty {X = X} {R = key_cmp})) (sym (len-entries (empty {X = X} {R = key_cmp})) ∙ len-empty key_cmp X)
  entries_in_order (e ∷ es) h = entries-insert key_total (map_seen es) (key_seen e.0) e.1 ∙ ap (put key_cmp (key_seen e.0) e.1) (entries_in_order es h.1) ∙ put_first e es h.0
