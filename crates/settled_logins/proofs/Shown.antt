-- A listing that has exactly what stands in a cluster has it by the records of the disks.
use Rattle.std.proofs.Common.{◌≡◌, ◌≢◌, inl, inr, ⊎_elim, ◌<◌, ℕ, zero, suc, Bool, true, false, List, [], ◌∷◌, map, Some, refl, sym, ap, ◌∙◌, subst, arith, true≢false, AllPairs}
use Rattle.std.specs.Prelude.{◌↔◌, length, slice_index_or}
use Rattle.std.specs.Ordering.{nat_cmp, is_lt, ordering_reverse, ordering_then}
use Rattle.std.specs.Cmp.{IsTotalOrder, nat_cmp_total}
use Rattle.std.specs.declared.cmp.Ordering.{Ordering}
use Rattle.std.specs.declared.cmp.Ordering.TheVariants.{Less, Equal, Greater}
use Rattle.std.proofs.lemmas.Cmp.{then_total, on_total}
use Rattle.std.proofs.lemmas.Map.Lookups.{CmpEqualImpliesEq, exact_pairs, exact_unsigned}
use Rattle.mail_model.specs.Identity.{Id, Stamp}
use Rattle.mail_model.specs.Identity.Key.{Message}
use Rattle.mail_model.specs.Record.{Record}
use Rattle.object_model.specs.Sets.{has}
use Rattle.object_model.specs.Lists.{Among}
use Rattle.object_model.specs.Said.{said, is_gone_held}
use Rattle.object_model.specs.Keys.{id_cmp}
use Rattle.object_model.proofs.MapLaws.{id_total}
use Rattle.cluster_model.specs.Reads.{ListedCopy, copy_cmp, IsListedBefore, IsListedCopy}
use Rattle.login_model.specs.Cluster.{Slot, slot_at}
use Rattle.login_model.specs.Listing.{LoginItem, as_copy, MemberLists, ListsStanding, is_later}
use Rattle.standing_model.specs.Standing.{disk_at, OnDisk, HoldsCopy, CopyStands, stamp_cmp, IsStampOf, AreStanding}
use Rattle.settled_logins.proofs.Resting.{get_view, get_back}

module _ {X Y : Type 0} (f : X → Y) where
  -- pairs of a list that is mapped
  index_map : (xs : List X) (i : ℕ) (d : Y) (x : X) → i < length xs → slice_index_or (map f xs) i d ≡ f (slice_index_or xs i x)
  index_map [] i d x lt = absurd (omega (arith, lt))
  index_map (y ∷ xs) zero d x lt = refl
  index_map (y ∷ xs) (suc i) d x lt = index_map xs i d x (omega (arith, lt))

  map_long : (xs : List X) → length (map f xs) ≡ length xs
  map_long [] = refl
  map_long (x ∷ xs) = ap suc (map_long xs)

pub index_among : {X : Type 0} (xs : List X) (i : ℕ) (x : X) → i < length xs → Among (slice_index_or xs i x) xs
index_among [] i x lt = absurd (omega (arith, lt))
index_among (y ∷ xs) zero x lt = inl refl
index_among (y ∷ xs) (suc i) x lt = inr (index_among xs i x (omega (arith, lt)))

pairs_map : {X Y : Type 0} (f : X → Y) (P : X → X → Type 0) (Q : Y → Y → Type 0) (xs : List X) → AllPairs P xs → ((a b : X) → Among a xs → Among b xs → P a b → Q (f a) (f b)) → AllPairs Q (map f xs)
pairs_map f P Q [] all step i j d lt within = absurd (omega (arith, within))
pairs_map f P Q (x ∷ xs) all step i j d lt within =
    let long : j < length (x ∷ xs) = subst (λ n. j < n) (map_long f (x ∷ xs)) within in
    let short : i < length (x ∷ xs) = omega (arith, lt, long) in
    subst (λ y. Q y (slice_index_or (map f (x ∷ xs)) j d)) (sym (index_map f (x ∷ xs) i d x short))
    (subst (Q (f (slice_index_or (x ∷ xs) i x))) (sym (index_map f (x ∷ xs) j d x long))
    (step (slice_index_or (x ∷ xs) i x) (slice_index_or (x ∷ xs) j x) (index_among (x ∷ xs) i x short) (index_among (x ∷ xs) j x long) (all i j x lt long)))

-- orders
less_is : (o : Ordering) → is_lt o ≡ true → o ≡ Less
less_is Less e = refl
less_is Equal e = absurd (true≢false (sym e))
less_is Greater e = absurd (true≢false (sym e))

not_reversed : (o : Ordering) → o ≡ Less → o ≡ ordering_reverse o → ⊥
not_reversed Less e f = absurd (cc f)
not_reversed Equal e f = absurd (cc e)
not_reversed Greater e f = absurd (cc e)

copy_total : IsTotalOrder copy_cmp
copy_total = then_total (on_total (λ c. c.stamp.count) nat_cmp_total) (then_total (on_total (λ c. c.stamp.boot) nat_cmp_total)
    (then_total (on_total (λ c. c.stamp.node) nat_cmp_total) (on_total (λ c. c.id) id_total)))

not_both : (one other : ListedCopy) → IsListedBefore one other → IsListedBefore other one → ⊥
not_both one other p q = not_reversed (copy_cmp one one) (copy_total.trans one other one (less_is (copy_cmp one other) p) (less_is (copy_cmp other one) q)) (copy_total.antisymm one one)

stamp_total : IsTotalOrder stamp_cmp
stamp_total = then_total (on_total (λ s. s.count) nat_cmp_total) (then_total (on_total (λ s. s.boot) nat_cmp_total) (on_total (λ s. s.node) nat_cmp_total))

stamp_exact : CmpEqualImpliesEq stamp_cmp
stamp_exact a b h = ap (λ (p : ℕ × (ℕ × ℕ)). record { count = p.0; boot = p.1.0; node = p.1.1 })
    (exact_pairs nat_cmp (λ (x y : ℕ × ℕ). ordering_then (nat_cmp x.0 y.0) (nat_cmp x.1 y.1)) exact_unsigned (exact_pairs nat_cmp nat_cmp exact_unsigned exact_unsigned)
    (a.count, (a.boot, a.node)) (b.count, (b.boot, b.node)) h)

-- two stamps of which neither is earlier are one
one_stamp : (a b : Stamp) → is_lt (stamp_cmp a b) ≡ false → is_lt (stamp_cmp b a) ≡ false → a ≡ b
one_stamp a b p q = by (stamp_cmp a b) refl
  where
    reversed : stamp_cmp a b ≡ Greater → stamp_cmp b a ≡ Less
    reversed e = stamp_total.antisymm b a ∙ ap ordering_reverse e

    by : (o : Ordering) → stamp_cmp a b ≡ o → a ≡ b
    by Less e = absurd (true≢false (sym (ap is_lt e) ∙ p))
    by Equal e = stamp_exact a b e
    by Greater e = absurd (true≢false (sym (ap is_lt (reversed e)) ∙ q))

-- a stamp that is earlier puts its copy before
earlier_before : (a b : ListedCopy) → is_lt (stamp_cmp a.stamp b.stamp) ≡ true → IsListedBefore a b
earlier_before a b e = three (nat_cmp a.stamp.count b.stamp.count) (nat_cmp a.stamp.boot b.stamp.boot) (nat_cmp a.stamp.node b.stamp.node) (id_cmp a.id b.id) e
  where
    three : (x y z r : Ordering) → is_lt (ordering_then x (ordering_then y z)) ≡ true → is_lt (ordering_then x (ordering_then y (ordering_then z r))) ≡ true
    three Less y z r e = refl
    three Greater y z r e = e
    three Equal Less z r e = refl
    three Equal Greater z r e = e
    three Equal Equal Less r e = refl
    three Equal Equal Greater r e = e
    three Equal Equal Equal r e = absurd (true≢false (sym e))

module _ (slots : List Slot) (members : ℕ) (nodes : List ℕ) (user : List ℕ) (items : List LoginItem) (same : (m : ℕ) → (has members m ≡ true) ↔ Among m nodes) (l : ListsStanding slots members user items) where
  abbrev disks : List (List Record)
  disks = map (λ (slot : Slot). slot.disk) slots

  on_slot : (n : ℕ) (records : List Record) → disk_at disks n ≡ Some records → (slot : Slot) × (slot_at slots n ≡ Some slot) × (slot.disk ≡ records)
  on_slot zero records e = absurd (cc e)
  on_slot (suc k) records e = get_back (λ (slot : Slot). slot.disk) slots k records e

  of_slot : (n : ℕ) (slot : Slot) → slot_at slots n ≡ Some slot → disk_at disks n ≡ Some slot.disk
  of_slot zero slot e = absurd (cc e)
  of_slot (suc k) slot e = get_view (λ (slot : Slot). slot.disk) slots k slot e

  -- a member that holds a copy lists it
  lists_it : (n : ℕ) (id : Id) (stamp : Stamp) → Among n nodes → OnDisk disks n (HoldsCopy user id stamp) → (h : MemberLists slots members user id n) × (h.copy.stamp ≡ stamp)
  lists_it n id stamp member (records, at, holds) =
      let s = on_slot n records at in (
        record {
          member = (same n).1 member;
          slot = s.0;
          here = s.1;
          copy = record { id = id; stamp = stamp; targets = holds.targets; size = length holds.octets };
          lists = subst (λ d. IsListedCopy user d (record { id = id; stamp = stamp; targets = holds.targets; size = length holds.octets })) (sym s.2) (record { says = holds.says; octets = holds.octets; held = holds.held; size = refl });
          same = refl;
        },
        refl,
      )

  holds_it : (n : ℕ) (id : Id) (h : MemberLists slots members user id n) → OnDisk disks n (HoldsCopy user id h.copy.stamp)
  holds_it n id h = (
    h.slot.disk,
    of_slot n h.slot h.here,
    subst (λ i. HoldsCopy user i h.copy.stamp h.slot.disk) h.same (record { targets = h.copy.targets; says = h.lists.says; octets = h.lists.octets; held = h.lists.held }),
  )

  -- the stamp of an item is the latest
  stamp_is : (item : LoginItem) → Among item items → (stamp : Stamp) → IsStampOf disks nodes user item.id stamp → stamp ≡ item.stamp
  stamp_is item inside stamp s =
      let t = l.stamps item inside in
      let mine = lists_it s.n item.id stamp s.member s.says in
      one_stamp stamp item.stamp
      (subst (λ x. is_lt (stamp_cmp stamp x) ≡ false) t.same (s.latest t.m t.lists.copy.stamp ((same t.m).0 t.lists.member) (holds_it t.m item.id t.lists)))
      (subst (λ x. is_later x item.stamp ≡ false) mine.1 (t.none_later s.n mine.0))

  item_in : (xs : List LoginItem) (id : Id) → Among id (map (λ (item : LoginItem). item.id) xs) → (item : LoginItem) × Among item xs × (item.id ≡ id)
  item_in [] id m = absurd m
  item_in (x ∷ xs) id m = ⊎_elim (λ is. (x, inl refl, is)) (λ more. let r = item_in xs id more in (r.0, inr r.1, r.2)) m

  in_item : (xs : List LoginItem) (item : LoginItem) → Among item xs → Among item.id (map (λ (x : LoginItem). x.id) xs)
  in_item [] item m = absurd m
  in_item (x ∷ xs) item m = ⊎_elim (λ is. inl (ap (λ (y : LoginItem). y.id) is)) (λ more. inr (in_item xs item more)) m

  pub shown : AreStanding disks nodes user (map (λ (item : LoginItem). item.id) items)
  shown = record {
    exact = λ id. (
      λ s.
          let mine = lists_it s.n id s.stamp s.member s.here in
          let found = (l.exact id).0 (record { m = s.n; holds = mine.0; not_gone = λ b slot member at. calm id s b slot member at (is_gone_held (said (Message user id) slot.disk)) refl }) in
          subst (λ i. Among i (map (λ (item : LoginItem). item.id) items)) found.2 (in_item items found.0 found.1),
      λ m.
          let found = item_in items id m in
          let s = (l.exact id).1 found in
          record {
            n = s.m;
            member = (same s.m).0 s.holds.member;
            stamp = s.holds.copy.stamp;
            here = holds_it s.m id s.holds;
            not_gone = λ b member (records, at, gone).
                let slot = on_slot b records at in
                true≢false (sym (subst (λ d. is_gone_held (said (Message user id) d) ≡ true) (sym slot.2) gone) ∙ s.not_gone b slot.0 ((same b).1 member) slot.1);
          },
    );
    once = pairs_map (λ (item : LoginItem). item.id) (λ (a b : LoginItem). a.id ≢ b.id) (λ (a b : Id). a ≢ b) items l.once (λ a b x y apart. apart);
    rising = pairs_map (λ (item : LoginItem). item.id) (λ (a b : LoginItem). IsListedBefore (as_copy a) (as_copy b))
        (λ (a b : Id). (s t : Stamp) → IsStampOf disks nodes user a s → IsStampOf disks nodes user b t → is_lt (stamp_cmp t s) ≡ false) items l.rising
        (λ a b x y before s t is_a is_b. in_order a b before s t (stamp_is a x s is_a) (stamp_is b y t is_b) (is_lt (stamp_cmp t s)) refl);
  }
    where
      calm : (id : Id) → CopyStands disks nodes user id → (b : ℕ) (slot : Slot) → has members b ≡ true → slot_at slots b ≡ Some slot → (g : Bool) → is_gone_held (said (Message user id) slot.disk) ≡ g
          → is_gone_held (said (Message user id) slot.disk) ≡ false
      calm id s b slot member at true e = absurd (s.not_gone b ((same b).0 member) (slot.disk, of_slot b slot at, e))
      calm id s b slot member at false e = e

      in_order : (a b : LoginItem) → IsListedBefore (as_copy a) (as_copy b) → (s t : Stamp) → s ≡ a.stamp → t ≡ b.stamp → (o : Bool) → is_lt (stamp_cmp t s) ≡ o → is_lt (stamp_cmp t s) ≡ false
      in_order a b before s t sa tb false e = e
      in_order a b before s t sa tb true e = absurd (not_both (as_copy a) (as_copy b) before (earlier_before (as_copy b) (as_copy a)
          (subst (λ x. is_lt (stamp_cmp b.stamp x) ≡ true) sa (subst (λ x. is_lt (stamp_cmp x s) ≡ true) tb e))))
