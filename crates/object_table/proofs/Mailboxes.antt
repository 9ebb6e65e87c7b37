-- The messages of a user are those among the entries between two keys.
use Rattle.std.proofs.Common.{◌≡◌, ◌⊎◌, inl, inr, ⊎_elim, ℕ, ◌<◌, ◌≤◌, Bool, true, false, cond, not, ◌&&◌, nat_eq, List, [], ◌∷◌, Option, Some, None, All, refl, sym, ap, subst, ◌∙◌, arith}
use Rattle.std.specs.Ordering.{nat_cmp, ordering_then, is_le, is_lt, is_gt}
use Rattle.std.specs.declared.cmp.Ordering.{Ordering}
use Rattle.std.specs.declared.cmp.Ordering.TheVariants.{Less, Equal, Greater}
use Rattle.std.specs.declared.ops.Bound.TheVariants.{Included}
use Rattle.std.specs.Cmp.{Equal-is, tied_itself}
use Rattle.std.specs.Cmp.Lexicographic.{nat_list_cmp_total, pointwise, bytes_decides}
use Rattle.std.specs.List.{filter, AllByRecursion}
use Rattle.std.specs.List.Sorted.{IsStrictlySortedBy}
use Rattle.std.specs.Map.{lookup, keys_of}
use Rattle.std.specs.BTreeMap as tree
use Rattle.std.specs.BTreeMap.{BTreeMap, is_at}
use Rattle.std.specs.BTreeMap.Range.{range_contains, entries_between, IsLeBy}
use Rattle.std.specs.FinMap as fin
use Rattle.std.proofs.lemmas.Bool.{and_parts, and_from}
use Rattle.std.proofs.lemmas.Cmp.{ranked, by_ranked}
use Rattle.std.proofs.lemmas.List.Elements.{All-filter, All-head, All-tail}
use Rattle.std.proofs.lemmas.List.Kept.{IsStrictlySortedBy-filter}
use Rattle.std.proofs.lemmas.Map.Entries.{lookup-filter-keys}
use Rattle.std.proofs.lemmas.Map.Views.{All-found}
use Rattle.mail_model.specs.Identity as plain
use Rattle.mail_model.specs.Identity.{Id, State}
use Rattle.mail_model.specs.Identity.Key.{Profile}
use Rattle.mail_model.specs.Listing.{is_here}
use Rattle.mail_model.specs.Grammar.{IsId}
use Rattle.object_model.specs.Keys.{id_cmp, key_cmp}
use Rattle.object_model.specs.Lists.{Among}
use Rattle.object_model.proofs.MapLaws.{key_exact}
use Rattle.mail_base.specs.declared.key.Key.{Key}
use Rattle.mail_base.specs.declared.key.Key.TheVariants.{Message}
use Rattle.mail_base.specs.Seen.{key_seen}
use Rattle.mail_base.specs.KeyOrder.{seen_cmp, seen_total}
use Rattle.mail_base.specs.KeyMaps.{entries_seen, map_seen}
use Rattle.mail_base.proofs.KeyMaps.{at_key, get_key}
use Rattle.object_table.specs.Tables.{Table}
use Rattle.object_table.specs.Mailboxes.{copy_here, onto, ids_here, StandsHere, AreHere, least_id, greatest_id}

-- keys of one user's messages are ordered as their ids
by_ids : (user : List ℕ) (i j : Id) → key_cmp (plain.Key.Message user i) (plain.Key.Message user j) ≡ id_cmp i j
by_ids user i j = ap (λ (o : Ordering). ordering_then o (id_cmp i j)) (tied_itself nat_list_cmp_total user)

-- a number that is no greater is not above
no_greater : (x y : ℕ) → x ≤ y → (nat_cmp x y ≡ Less) ⊎ (nat_cmp x y ≡ Equal)
no_greater x y le = by_ranked (x < y) (x ≡ y) (y < x) (nat_cmp x y) (ranked x y (nat_cmp x y) refl) (λ e h. inl e) (λ e h. inr e) (λ e h. absurd (omega (arith, le, h)))

no_less : (x y : ℕ) → y ≤ x → (nat_cmp x y ≡ Greater) ⊎ (nat_cmp x y ≡ Equal)
no_less x y le = by_ranked (x < y) (x ≡ y) (y < x) (nat_cmp x y) (ranked x y (nat_cmp x y) refl) (λ e h. absurd (omega (arith, le, h))) (λ e h. inr e) (λ e h. inl e)

le_then : (a b : Ordering) → (a ≡ Less) ⊎ (a ≡ Equal) → is_le b ≡ true → is_le (ordering_then a b) ≡ true
le_then a b h more = ⊎_elim (λ e. ap (λ (o : Ordering). is_le (ordering_then o b)) e) (λ e. ap (λ (o : Ordering). is_le (ordering_then o b)) e ∙ more) h

ge_then : (a b : Ordering) → (a ≡ Greater) ⊎ (a ≡ Equal) → is_lt b ≡ false → is_lt (ordering_then a b) ≡ false
ge_then a b h more = ⊎_elim (λ e. ap (λ (o : Ordering). is_lt (ordering_then o b)) e) (λ e. ap (λ (o : Ordering). is_lt (ordering_then o b)) e ∙ more) h

from_least : (id : Id) → IsId id → is_le (id_cmp least_id id) ≡ true
from_least id fits =
    le_then (nat_cmp 1 id.node) (ordering_then (nat_cmp 1 id.boot) (nat_cmp 1 id.seq)) (no_greater 1 id.node fits.node.0)
    (le_then (nat_cmp 1 id.boot) (nat_cmp 1 id.seq) (no_greater 1 id.boot (omega (arith, fits.boot.0)))
    (⊎_elim (λ e. ap is_le e) (λ e. ap is_le e) (no_greater 1 id.seq (omega (arith, fits.seq.0)))))

to_greatest : (id : Id) → IsId id → is_lt (id_cmp greatest_id id) ≡ false
to_greatest id fits =
    ge_then (nat_cmp 16 id.node) (ordering_then (nat_cmp 4294967295 id.boot) (nat_cmp 18446744073709551615 id.seq)) (no_less 16 id.node fits.node.1)
    (ge_then (nat_cmp 4294967295 id.boot) (nat_cmp 18446744073709551615 id.seq) (no_less 4294967295 id.boot (omega (arith, fits.boot.1)))
    (⊎_elim (λ e. ap is_lt e) (λ e. ap is_lt e) (no_less 18446744073709551615 id.seq (omega (arith, fits.seq.1)))))

-- the keys of a user's messages lie between these two
pub forward : (user : List ℕ) → IsLeBy seen_cmp (Message user least_id) (Message user greatest_id)
forward user = ap is_gt (by_ids user least_id greatest_id)

within : (user : List ℕ) (id : Id) → IsId id → (k : Key) → is_at (seen_cmp (Message user id)) k ≡ true → range_contains seen_cmp (Included (Message user least_id)) (Included (Message user greatest_id)) k ≡ true
within user id fits k at =
    let same : plain.Key.Message user id ≡ key_seen k = key_exact (plain.Key.Message user id) (key_seen k) ((Equal-is (key_cmp (plain.Key.Message user id) (key_seen k))).0 at) in
    subst (λ (q : plain.Key). (is_le (key_cmp (plain.Key.Message user least_id) q) && not (is_lt (key_cmp (plain.Key.Message user greatest_id) q))) ≡ true) same
    (and_from (is_le (key_cmp (plain.Key.Message user least_id) (plain.Key.Message user id))) (not (is_lt (key_cmp (plain.Key.Message user greatest_id) (plain.Key.Message user id))))
    (ap is_le (by_ids user least_id id) ∙ from_least id fits)
    (ap (λ (o : Ordering). not (is_lt o)) (by_ids user greatest_id id) ∙ ap not (to_greatest id fits)))

-- a copy of the user that is here
copy_is : (user : List ℕ) (k : plain.Key) (s : State) (id : Id) → copy_here user k s ≡ Some id → (k ≡ plain.Key.Message user id) × (is_here s.value ≡ true)
copy_is user (plain.Key.Profile name) s id e = absurd (cc e)
copy_is user (plain.Key.Message name other) s id e = by (pointwise nat_eq name user && is_here s.value) refl e
  where
    by : (b : Bool) → (pointwise nat_eq name user && is_here s.value) ≡ b → cond b (Some other) None ≡ Some id → (plain.Key.Message name other ≡ plain.Key.Message user id) × (is_here s.value ≡ true)
    by true holds f =
        let parts = and_parts (pointwise nat_eq name user) (is_here s.value) holds in
        let names : name ≡ user = (bytes_decides name user).0 parts.0 in
        let ids : other ≡ id = cc f in
        (λ i. plain.Key.Message (names i) (ids i), parts.1)
    by false holds f = absurd (cc f)

copy_stands : (user : List ℕ) (s : State) (id : Id) → is_here s.value ≡ true → copy_here user (plain.Key.Message user id) s ≡ Some id
copy_stands user s id here = ap (λ (b : Bool). cond b (Some id) None) (and_from (pointwise nat_eq user user) (is_here s.value) ((bytes_decides user user).1 refl) here)

among_onto : (o : Option Id) (id : Id) (ids : List Id) → Among id ids → Among id (onto o ids)
among_onto None id ids m = m
among_onto (Some other) id ids m = inr m

-- each of these stands
standing : (user : List ℕ) (es r : List (Key × State)) → All (λ (e : Key × State). at_key es e.0 ≡ Some e.1) r → (id : Id) → Among id (ids_here user (entries_seen r)) → StandsHere user (map_seen es) id
standing user es [] all id m = absurd m
standing user es (e ∷ r) all id m = by (copy_here user (key_seen e.0) e.1) refl (λ n. standing user es r (All-tail (λ (e : Key × State). at_key es e.0 ≡ Some e.1) e r all) id n) m
  where
    by : (o : Option Id) → copy_here user (key_seen e.0) e.1 ≡ o → (Among id (ids_here user (entries_seen r)) → StandsHere user (map_seen es) id) → Among id (onto o (ids_here user (entries_seen r)))
        → StandsHere user (map_seen es) id
    by None is more n = more n
    by (Some other) is more (inl same) =
        let copy = copy_is user (key_seen e.0) e.1 other is in
        record {
          state = e.1;
          is = ap (fin.get (map_seen es)) (sym (copy.0 ∙ ap (plain.Key.Message user) same)) ∙ get_key es e.0 ∙ All-head (λ (e : Key × State). at_key es e.0 ≡ Some e.1) e r all;
          here = copy.1;
        }
    by (Some other) is more (inr n) = more n

-- and what is found is among these
listed : (user : List ℕ) (id : Id) (s : State) → is_here s.value ≡ true → (r : List (Key × State)) → lookup (is_at (seen_cmp (Message user id))) r ≡ Some s → Among id (ids_here user (entries_seen r))
listed user id s here [] is = absurd (cc is)
listed user id s here (e ∷ r) is = by (is_at (seen_cmp (Message user id)) e.0) refl (λ f. listed user id s here r f) is
  where
    by : (b : Bool) → is_at (seen_cmp (Message user id)) e.0 ≡ b → (lookup (is_at (seen_cmp (Message user id))) r ≡ Some s → Among id (ids_here user (entries_seen r))) → cond b (Some e.1) (lookup (is_at (seen_cmp (Message user id))) r) ≡ Some s → Among id (ids_here user (entries_seen (e ∷ r)))
    by true at more f =
        let same : plain.Key.Message user id ≡ key_seen e.0 = key_exact (plain.Key.Message user id) (key_seen e.0) ((Equal-is (key_cmp (plain.Key.Message user id) (key_seen e.0))).0 at) in
        let state : e.1 ≡ s = cc f in
        let found : copy_here user (key_seen e.0) e.1 ≡ Some id = ap (λ (q : plain.Key). copy_here user q e.1) (sym same) ∙ copy_stands user e.1 id (ap (λ (t : State). is_here t.value) state ∙ here) in
        subst (λ (o : Option Id). Among id (onto o (ids_here user (entries_seen r)))) (sym found) (inl refl)
    by false at more f = among_onto (copy_here user (key_seen e.0) e.1) id (ids_here user (entries_seen r)) (more f)

-- they are in order
after : (user : List ℕ) (id : Id) (k : Key) → key_seen k ≡ plain.Key.Message user id → (r : List (Key × State)) → AllByRecursion (λ (q : Key). seen_cmp k q ≡ Less) (keys_of r)
    → AllByRecursion (λ (j : Id). id_cmp id j ≡ Less) (ids_here user (entries_seen r))
after user id k is [] all = tt
after user id k is (e ∷ r) all = by (copy_here user (key_seen e.0) e.1) refl (after user id k is r all.1)
  where
    by : (o : Option Id) → copy_here user (key_seen e.0) e.1 ≡ o → AllByRecursion (λ (j : Id). id_cmp id j ≡ Less) (ids_here user (entries_seen r)) → AllByRecursion (λ (j : Id). id_cmp id j ≡ Less) (onto o (ids_here user (entries_seen r)))
    by None found more = more
    by (Some other) found more =
        let same : key_seen e.0 ≡ plain.Key.Message user other = (copy_is user (key_seen e.0) e.1 other found).0 in
        let less : key_cmp (plain.Key.Message user id) (plain.Key.Message user other) ≡ Less =
        subst (λ (q : plain.Key). key_cmp q (plain.Key.Message user other) ≡ Less) is (subst (λ (q : plain.Key). key_cmp (key_seen k) q ≡ Less) same all.0) in
        (sym (by_ids user id other) ∙ less, more)

in_order : (user : List ℕ) (r : List (Key × State)) → IsStrictlySortedBy seen_cmp (keys_of r) → IsStrictlySortedBy id_cmp (ids_here user (entries_seen r))
unfolding IsStrictlySortedBy
in_order user [] ordered = tt
in_order user (e ∷ r) ordered = by (copy_here user (key_seen e.0) e.1) refl (in_order user r ordered.1)
  where
    by : (o : Option Id) → copy_here user (key_seen e.0) e.1 ≡ o → IsStrictlySortedBy id_cmp (ids_here user (entries_seen r)) → IsStrictlySortedBy id_cmp (onto o (ids_here user (entries_seen r)))
    by None found more = more
    by (Some id) found more = (after user id e.0 (copy_is user (key_seen e.0) e.1 id found).0 r ordered.0, more)

-- the keys of the entries that pass a test of the keys
keys_passed : (p : Key → Bool) (r : List (Key × State)) → keys_of (filter (λ (e : Key × State). p e.0) r) ≡ filter p (keys_of r)
keys_passed p [] = refl
keys_passed p (e ∷ r) = by (p e.0) (keys_passed p r)
  where
    by : (b : Bool) → keys_of (filter (λ (f : Key × State). p f.0) r) ≡ filter p (keys_of r) → keys_of (cond b (e ∷ filter (λ (f : Key × State). p f.0) r) (filter (λ (f : Key × State). p f.0) r)) ≡ cond b (e.0 ∷ filter p (keys_of r)) (filter p (keys_of r))
    by true more = ap (λ (ks : List Key). e.0 ∷ ks) more
    by false more = more

-- the messages of the user that are here are those of the entries between the two keys
pub are_here : (held : BTreeMap Key State) (table : Table) (user : List ℕ) (first last : Key) (ids : List Id) → map_seen held.entries ≡ table → tree.IsOrdered seen_cmp held
    → first ≡ Message user least_id → last ≡ Message user greatest_id
    → ids ≡ ids_here user (entries_seen (entries_between seen_cmp (Included first) (Included last) held.entries)) → AreHere user table ids
are_here held table user first last ids seen ordered is_first is_last is =
    subst (λ (t : Table). AreHere user t ids) seen
    (subst (AreHere user (map_seen held.entries)) (sym (is ∙ ap (λ (k : Key). ids_here user (entries_seen (entries_between seen_cmp (Included k) (Included last) held.entries))) is_first
    ∙ ap (λ (k : Key). ids_here user (entries_seen (entries_between seen_cmp (Included (Message user least_id)) (Included k) held.entries))) is_last)) all_of)
  where
    test : Key → Bool
    test k = range_contains seen_cmp (Included (Message user least_id)) (Included (Message user greatest_id)) k

    part : List (Key × State)
    part = filter (λ (e : Key × State). test e.0) held.entries

    all_of : AreHere user (map_seen held.entries) (ids_here user (entries_seen part))
    all_of = record {
      in_order = in_order user part (subst (IsStrictlySortedBy seen_cmp) (sym (keys_passed test held.entries)) (IsStrictlySortedBy-filter seen_cmp test (keys_of held.entries) ordered));
      standing = λ id m. standing user held.entries part (All-filter (λ (e : Key × State). test e.0) (λ (e : Key × State). at_key held.entries e.0 ≡ Some e.1) held.entries (All-found seen_total held ordered)) id m;
      all = λ id fits h.
          let found : at_key held.entries (Message user id) ≡ Some h.state = sym (get_key held.entries (Message user id)) ∙ h.is in
          listed user id h.state h.here part (lookup-filter-keys (is_at (seen_cmp (Message user id))) test true (λ k at. within user id fits k at) held.entries ∙ found);
    }

pub message_is : (a user : List ℕ) (i j : Id) → a ≡ user → i ≡ j → Message a i ≡ Message user j
message_is a user i j users ids = λ x. Message (users x) (ids x)

pub forward_at : (user : List ℕ) (first last : Key) → first ≡ Message user least_id → last ≡ Message user greatest_id → IsLeBy seen_cmp first last
forward_at user first last is_first is_last =
    subst (λ (k : Key). IsLeBy seen_cmp k last) (sym is_first) (subst (λ (k : Key). IsLeBy seen_cmp (Message user least_id) k) (sym is_last) (forward user))
