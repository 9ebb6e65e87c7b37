-- What a node tells of a user is the listing of the mailbox.
use Rattle.std.proofs.Common.{◌≡◌, ◌≢◌, inl, inr, ℕ, zero, suc, ◌+◌, ◌<◌, ◌≤◌, Bool, true, false, cond, List, [], ◌∷◌, length, map, get_or, All, AllPairs, Option, Some, None, refl, sym, ap, subst, ◌∙◌, true≢false, arith}
use Rattle.std.specs.Ordering.{nat_cmp, is_lt, ordering_reverse, ordering_then}
use Rattle.std.specs.declared.cmp.Ordering.{Ordering}
use Rattle.std.specs.declared.cmp.Ordering.TheVariants.{Less, Equal, Greater}
use Rattle.std.specs.Cmp.{IsTotalOrder, IsStrictWeakOrder, tied_itself}
use Rattle.std.specs.List.{AllByRecursion, Contains, sum_by}
use Rattle.std.specs.List.Sorted.{IsPermutation, IsStrictlySortedBy}
use Rattle.std.proofs.lemmas.Cmp.{then_total, on_total, nat_cmp_total}
use Rattle.std.proofs.lemmas.List.Elements.{All-map}
use Rattle.std.proofs.lemmas.List.Kept.{AllPairs-cons}
use Rattle.std.proofs.lemmas.List.Sorted.{ranks_by, sorted_far, IsPermutation-map, IsPermutation-sym, Contains-permutation, sum_by-IsPermutation}
use Rattle.std.proofs.lemmas.List.Sums.{sum_by-cons}
use Rattle.mail_model.specs.Identity.{Id, State, Value}
use Rattle.mail_model.specs.Identity.Value.{Here, Gone, Secret}
use Rattle.mail_model.specs.Identity.Key.{Message}
use Rattle.mail_model.specs.Grammar.{IsId, IsRecord}
use Rattle.mail_model.specs.Listing.{is_same_id, is_here, octets_in}
use Rattle.mail_model.specs.Record.{Record}
use Rattle.mail_model.specs.Record.Record.{Octets}
use Rattle.object_model.specs.Keys.{id_cmp}
use Rattle.object_model.specs.Lists.{Among}
use Rattle.object_model.specs.Said.{said}
use Rattle.object_model.proofs.MapLaws.{id_total, id_exact}
use Rattle.object_model.proofs.StateLaws.{id_is, id_self}
use Rattle.object_model.specs.Letters.{ToldItem}
use Rattle.cluster_model.specs.Reads.{ListedCopy, copy_cmp, IsListedBefore, IsListedCopy, IsListing, is_here_held}
use Rattle.cluster_model.proofs.Filing.{octets_stand}
use Rattle.cluster_model.proofs.Listings.{each_of}
use Rattle.node_store.specs.Mailboxes.{AreIdsHere}
use Rattle.login_model.specs.Facts.{copy_told, IsToldList}
use Rattle.node_core.specs.Listing.{copy_if, copy_of, with_copy, copies_for, comes_first, AreInOrder}

-- a copy that stands in a listing, and one that does not
here_state : (state : State) → is_here state.value ≡ true → state ≡ record { value = Here; stamp = state.stamp; targets = state.targets }
here_state state here = ap (λ (v : Value). record { value = v; stamp = state.stamp; targets = state.targets }) (by state.value here)
  where
    by : (v : Value) → is_here v ≡ true → v ≡ Here
    by Here e = refl
    by Gone e = absurd (true≢false (sym e))
    by (Secret octets) e = absurd (true≢false (sym e))

module _ (user : List ℕ) (records : List Record) where
  pub copy_listed : (id : Id) (copy : ListedCopy) → copy_of user records id ≡ Some copy → (copy.id ≡ id) × IsListedCopy user records copy
  copy_listed id copy e = by (said (Message user id) records) refl (octets_in id records) refl e
    where
      last : (state : State) (octets : List ℕ) → said (Message user id) records ≡ Some state → octets_in id records ≡ Some octets → (b : Bool) → is_here state.value ≡ b
          → cond b (Some (record { id = id; stamp = state.stamp; targets = state.targets; size = length octets })) None ≡ Some copy → (copy.id ≡ id) × IsListedCopy user records copy
      last state octets says held false here f = absurd (cc f)
      last state octets says held true here f =
          let one : ListedCopy = record { id = id; stamp = state.stamp; targets = state.targets; size = length octets } in
          let is : one ≡ copy = cc f in
          subst (λ (c : ListedCopy). (c.id ≡ id) × IsListedCopy user records c) is
          (refl, record { says = says ∙ ap Some (here_state state here); octets = octets; held = held; size = refl })

      by : (s : Option State) → said (Message user id) records ≡ s → (o : Option (List ℕ)) → octets_in id records ≡ o → copy_if id s o ≡ Some copy → (copy.id ≡ id) × IsListedCopy user records copy
      by None says o held f = absurd (cc f)
      by (Some state) says None held f = absurd (cc f)
      by (Some state) says (Some octets) held f = last state octets says held (is_here state.value) refl f

  pub listed_copy : (copy : ListedCopy) → IsListedCopy user records copy → copy_of user records copy.id ≡ Some copy
  listed_copy copy is =
      ap (λ (s : Option State). copy_if copy.id s (octets_in copy.id records)) is.says
      ∙ ap (λ (o : Option (List ℕ)). copy_if copy.id (Some (record { value = Here; stamp = copy.stamp; targets = copy.targets })) o) is.held
      ∙ ap (λ (n : ℕ). Some (record { id = copy.id; stamp = copy.stamp; targets = copy.targets; size = n })) (sym is.size)

  among_onto : (o : Option ListedCopy) (copy : ListedCopy) (copies : List ListedCopy) → Among copy copies → Among copy (with_copy o copies)
  among_onto None copy copies m = m
  among_onto (Some other) copy copies m = inr m

  -- each of these is listed
  copies_listed : (ids : List Id) (copy : ListedCopy) → Among copy (copies_for user records ids) → IsListedCopy user records copy
  copies_listed [] copy m = absurd m
  copies_listed (id ∷ ids) copy m = by (copy_of user records id) refl (λ n. copies_listed ids copy n) m
    where
      by : (o : Option ListedCopy) → copy_of user records id ≡ o → (Among copy (copies_for user records ids) → IsListedCopy user records copy) → Among copy (with_copy o (copies_for user records ids))
          → IsListedCopy user records copy
      by None e more n = more n
      by (Some other) e more (inl same) = subst (IsListedCopy user records) same (copy_listed id other e).1
      by (Some other) e more (inr n) = more n

  -- and what is listed under one of the ids is one of these
  listed_copies : (ids : List Id) (copy : ListedCopy) → IsListedCopy user records copy → Among copy.id ids → Among copy (copies_for user records ids)
  listed_copies [] copy is m = absurd m
  listed_copies (id ∷ ids) copy is (inl same) =
      subst (λ (o : Option ListedCopy). Among copy (with_copy o (copies_for user records ids))) (sym (ap (copy_of user records) same ∙ listed_copy copy is)) (inl refl)
  listed_copies (id ∷ ids) copy is (inr m) = among_onto (copy_of user records id) copy (copies_for user records ids) (listed_copies ids copy is m)

  -- how often an id stands in a list of copies
  abbrev times : Id → List ListedCopy → ℕ
  times id copies = sum_by (λ (c : ListedCopy). cond (is_same_id c.id id) 1 0) copies

  -- a later id is another
  none_later : (id : Id) (ids : List Id) → AllByRecursion (λ (j : Id). id_cmp id j ≡ Less) ids → times id (copies_for user records ids) ≡ 0
  none_later id [] all = refl
  none_later id (j ∷ ids) all = by (copy_of user records j) refl (none_later id ids all.1)
    where
      other : (copy : ListedCopy) → copy.id ≡ j → (b : Bool) → is_same_id copy.id id ≡ b → ◌≡◌ {A = ℕ} (cond b 1 0) 0
      other copy is false e = refl
      other copy is true e =
          let same : j ≡ id = sym is ∙ id_is copy.id id e in
          let less : id_cmp id id ≡ Less = subst (λ (k : Id). id_cmp id k ≡ Less) same all.0 in
          absurd (let never : Equal ≡ Less = sym (tied_itself id_total id) ∙ less in cc never)

      by : (o : Option ListedCopy) → copy_of user records j ≡ o → times id (copies_for user records ids) ≡ 0 → times id (with_copy o (copies_for user records ids)) ≡ 0
      by None e more = more
      by (Some copy) e more = omega (
        arith,
        sum_by-cons (λ (c : ListedCopy). cond (is_same_id c.id id) 1 0) copy (copies_for user records ids),
        other copy (copy_listed j copy e).0 (is_same_id copy.id id) refl,
        more,
      )

  -- each id has one copy
  once : (ids : List Id) → IsStrictlySortedBy id_cmp ids → (id : Id) → times id (copies_for user records ids) ≤ 1
  unfolding IsStrictlySortedBy
  once [] ordered id = omega arith
  once (j ∷ ids) ordered id = by (copy_of user records j) refl (once ids ordered.1 id)
    where
      with_first : (copy : ListedCopy) → copy.id ≡ j → times id (copies_for user records ids) ≤ 1 → (b : Bool) → is_same_id copy.id id ≡ b → cond b 1 0 + times id (copies_for user records ids) ≤ 1
      with_first copy is more false e = omega (arith, more)
      with_first copy is more true e =
          let same : j ≡ id = sym is ∙ id_is copy.id id e in
          let none : times id (copies_for user records ids) ≡ 0 = none_later id ids (subst (λ (k : Id). AllByRecursion (λ (i : Id). id_cmp k i ≡ Less) ids) same ordered.0) in
          omega (arith, none)

      by : (o : Option ListedCopy) → copy_of user records j ≡ o → times id (copies_for user records ids) ≤ 1 → times id (with_copy o (copies_for user records ids)) ≤ 1
      by None e more = more
      by (Some copy) e more = subst (λ (n : ℕ). n ≤ 1) (sym (sum_by-cons (λ (c : ListedCopy). cond (is_same_id c.id id) 1 0) copy (copies_for user records ids)))
          (with_first copy (copy_listed j copy e).0 more (is_same_id copy.id id) refl)

copy_total : IsTotalOrder copy_cmp
copy_total = then_total (on_total (λ (c : ListedCopy). c.stamp.count) nat_cmp_total) (then_total (on_total (λ (c : ListedCopy). c.stamp.boot) nat_cmp_total)
    (then_total (on_total (λ (c : ListedCopy). c.stamp.node) nat_cmp_total) (on_total (λ (c : ListedCopy). c.id) id_total)))

pub in_order_by : IsStrictWeakOrder comes_first
in_order_by = ranks_by copy_total copy_told

-- copies that tie have one id
then_equal : (a b : Ordering) → ordering_then a b ≡ Equal → b ≡ Equal
then_equal Less b e = absurd (cc e)
then_equal Equal b e = e
then_equal Greater b e = absurd (cc e)

tied_ids : (one other : ListedCopy) → copy_cmp one other ≡ Equal → one.id ≡ other.id
tied_ids one other e =
    let nodes = ordering_then (nat_cmp one.stamp.node other.stamp.node) (id_cmp one.id other.id) in
    let boots = ordering_then (nat_cmp one.stamp.boot other.stamp.boot) nodes in
    id_exact one.id other.id (then_equal (nat_cmp one.stamp.node other.stamp.node) (id_cmp one.id other.id)
    (then_equal (nat_cmp one.stamp.boot other.stamp.boot) nodes (then_equal (nat_cmp one.stamp.count other.stamp.count) boots e)))

-- what does not come after another, and has another id, comes before it
comes_before : (one other : ListedCopy) → is_lt (copy_cmp other one) ≡ false → (one.id ≡ other.id → ⊥) → IsListedBefore one other
comes_before one other not_after apart = by (copy_cmp other one) refl not_after
  where
    by : (o : Ordering) → copy_cmp other one ≡ o → is_lt o ≡ false → is_lt (copy_cmp one other) ≡ true
    by Less e f = absurd (true≢false f)
    by Equal e f = absurd (apart (sym (tied_ids other one e)))
    by Greater e f = ap is_lt (copy_total.antisymm one other ∙ ap ordering_reverse e)

-- a part of a sum is no greater than it
part_of_sum : {X : Type 0} (f : X → ℕ) (xs : List X) (k : ℕ) (d : X) → k < length xs → f (get_or xs k d) ≤ sum_by f xs
part_of_sum f [] k d lt = absurd (omega (arith, lt))
part_of_sum f (x ∷ xs) zero d lt = omega (arith, sum_by-cons f x xs)
part_of_sum f (x ∷ xs) (suc k) d lt = omega (arith, sum_by-cons f x xs, part_of_sum f xs k d (omega (arith, lt)))

-- how often an id stands in a list of messages
abbrev times_in : Id → List ToldItem → ℕ
times_in id items = sum_by (λ (item : ToldItem). cond (is_same_id item.id id) 1 0) items

times_seen : (user : List ℕ) (records : List Record) (id : Id) (items : List ToldItem) → times user records id (map copy_told items) ≡ times_in id items
times_seen user records id [] = refl
times_seen user records id (item ∷ items) =
    sum_by-cons (λ (c : ListedCopy). cond (is_same_id c.id id) 1 0) (copy_told item) (map copy_told items)
    ∙ ap (λ (n : ℕ). cond (is_same_id item.id id) 1 0 + n) (times_seen user records id items)
    ∙ sym (sum_by-cons (λ (i : ToldItem). cond (is_same_id i.id id) 1 0) item items)

-- messages in order, of which each id stands once, rise
rising : (items : List ToldItem) → AreInOrder items → ((id : Id) → times_in id items ≤ 1) → AllPairs IsListedBefore (map copy_told items)
rising [] ordered few = λ i j d lt within. absurd (omega (arith, within))
rising (item ∷ items) ordered few =
    AllPairs-cons IsListedBefore (copy_told item) (map copy_told items)
    (All-map (IsListedBefore (copy_told item)) copy_told items (λ k d lt.
    comes_before (copy_told item) (copy_told (get_or items k d))
    (sorted_far comes_first in_order_by (item ∷ items) ordered zero (suc k) d (omega arith) (omega (arith, lt)))
    (λ same. apart k d lt same)))
    (rising items (λ k d low high. subst (λ (m : ℕ). comes_first (get_or (item ∷ items) m d) (get_or items k d) ≡ false) (next k) (ordered (suc k) d (omega arith) (omega (arith, high)))) (λ id. omega (arith, few id, sum_by-cons (λ (i : ToldItem). cond (is_same_id i.id id) 1 0) item items)))
  where
    next : (k : ℕ) → suc k + 1 ≡ suc (k + 1)
    next k = omega arith

    apart : (k : ℕ) (d : ToldItem) → k < length items → item.id ≡ (get_or items k d).id → ⊥
    apart k d lt same =
        let f : ToldItem → ℕ = λ i. cond (is_same_id i.id item.id) 1 0 in
        let first : f item ≡ 1 = ap (λ (b : Bool). cond b 1 0) (id_self item.id) in
        let again : f (get_or items k d) ≡ 1 = ap (λ (i : Id). cond (is_same_id i item.id) 1 0) (sym same) ∙ first in
        omega (arith, few item.id, sum_by-cons f item items, first, again, part_of_sum f items k d lt)

-- what is among a list is contained in it
contains : {X : Type 0} (x : X) (xs : List X) → Among x xs → Contains xs x
contains x [] m = absurd m
contains x (y ∷ ys) (inl e) = (0, omega arith, e)
contains x (y ∷ ys) (inr m) = let at = contains x ys m in (suc at.0, omega (arith, at.1), at.2)

among : {X : Type 0} (x : X) (xs : List X) → Contains xs x → Among x xs
among x [] at = absurd (omega (arith, at.1))
among x (y ∷ ys) (zero, lt, is) = inl is
among x (y ∷ ys) (suc k, lt, is) = inr (among x ys (k, omega (arith, lt), is))

among_permuted : {X : Type 0} (x : X) (xs ys : List X) → IsPermutation xs ys → Among x xs → Among x ys
among_permuted x xs ys p m = among x ys (Contains-permutation xs ys x p (contains x xs m))

-- the copies of the ids that are here, put in order, are the listing
pub is_listing : (user : List ℕ) (records : List Record) (ids : List Id) (items sorted : List ToldItem) → All IsRecord records → AreIdsHere user records ids → map copy_told items ≡ copies_for user records ids
    → IsPermutation items sorted → AreInOrder sorted → IsToldList user records sorted
is_listing user records ids items sorted fit here copies permuted ordered = record {
  exact = λ copy. (
    λ m. copies_listed user records ids copy (subst (Among copy) copies (among_permuted copy (map copy_told sorted) (map copy_told items) (IsPermutation-sym (map copy_told items) (map copy_told sorted) moved) m)),
    λ is. among_permuted copy (map copy_told items) (map copy_told sorted) moved (subst (Among copy) (sym copies) (listed_copies user records ids copy is (here.all copy.id (named copy is) (ap is_here_held is.says)))),
  );
  rising = rising sorted ordered (λ id. omega (arith, sum_by-IsPermutation (λ (i : ToldItem). cond (is_same_id i.id id) 1 0) items sorted permuted, times_seen user records id items, ap (times user records id) copies, once user records ids here.in_order id));
}
  where
    moved : IsPermutation (map copy_told items) (map copy_told sorted)
    moved = IsPermutation-map copy_told items sorted permuted

    named : (copy : ListedCopy) → IsListedCopy user records copy → IsId copy.id
    named copy is = each_of IsRecord (Octets copy.id is.octets) records fit (octets_stand copy.id is.octets records is.held)
