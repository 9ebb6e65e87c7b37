-- The listing that told lists make: what was told message by message, sorted by id, with neighbours joined, and sorted by stamp.
use Rattle.std.proofs.Common.{◌≡◌, ◌≢◌, inl, inr, ◌⊎◌, ⊎_elim, ℕ, zero, suc, ◌+◌, ◌<◌, ◌≤◌, ◌&&◌, nat_le, Bool, true, false, cond, List, [], ◌∷◌, ◌++◌, length, map, get_or, All, AllPairs, refl, sym, ap, subst, ◌∙◌, true≢false, arith}
use Rattle.std.specs.Prelude.{◌↔◌}
use Rattle.std.specs.Ordering.{nat_cmp, is_lt, ordering_reverse, ordering_then}
use Rattle.std.specs.declared.cmp.Ordering.{Ordering}
use Rattle.std.specs.declared.cmp.Ordering.TheVariants.{Less, Equal, Greater}
use Rattle.std.specs.Cmp.{IsTotalOrder, IsStrictWeakOrder, tied_itself}
use Rattle.std.specs.List.{Contains, sum_by, list_all}
use Rattle.std.specs.List.Sorted.{IsPermutation}
use Rattle.std.proofs.lemmas.Bool.{and_parts}
use Rattle.std.proofs.lemmas.Bool.Decides.{nat_tests}
use Rattle.std.proofs.lemmas.Cmp.{then_total, on_total, nat_cmp_total}
use Rattle.std.proofs.lemmas.List.Elements.{All-map}
use Rattle.std.proofs.lemmas.List.Kept.{AllPairs-cons}
use Rattle.std.proofs.lemmas.List.Sorted.{ranks_by, sorted_far, IsPermutation-sym, Contains-permutation, sum_by-IsPermutation}
use Rattle.std.proofs.lemmas.List.Sums.{sum_by-cons}
use Rattle.mail_model.specs.Identity.{Id}
use Rattle.mail_model.specs.Listing.{is_same_id}
use Rattle.object_model.specs.Keys.{id_cmp}
use Rattle.object_model.specs.Letters.{ToldItem}
use Rattle.object_model.specs.Lists.{Among}
use Rattle.object_model.specs.Sets.{has, one_node, with_node}
use Rattle.object_model.proofs.MapLaws.{id_total, id_exact}
use Rattle.object_model.proofs.SetLaws.{has_none, has_right, one_has, has_with}
use Rattle.object_model.proofs.StateLaws.{id_is, id_self}
use Rattle.mail_base.specs.declared.item.Item.{Item}
use Rattle.cluster_model.specs.Reads.{ListedCopy, copy_cmp, IsListedBefore}
use Rattle.cluster_model.proofs.Filing.{among_map, map_among}
use Rattle.login_model.specs.Readings.{ToldList}
use Rattle.login_model.specs.Listing.{LoginItem, as_copy, IsToldOf, SomeTold, IsMergedItem, IsMergeOfTold}
use Rattle.told_lists.specs.Joining.{login_item, copy_seen, told_by, all_told, is_of_node, runs_of, AreByIds, comes_first, AreByStamps}
use Rattle.told_lists.proofs.Joined.{IsJoinOf, AreJoined, Rise, AreRuns, join_of_same, place_of, ascends, runs_of_join}

copy_total : IsTotalOrder copy_cmp
copy_total = then_total (on_total (λ (c : ListedCopy). c.stamp.count) nat_cmp_total) (then_total (on_total (λ (c : ListedCopy). c.stamp.boot) nat_cmp_total)
    (then_total (on_total (λ (c : ListedCopy). c.stamp.node) nat_cmp_total) (on_total (λ (c : ListedCopy). c.id) id_total)))

pub by_stamps : IsStrictWeakOrder comes_first
by_stamps = ranks_by copy_total copy_seen

-- copies that tie have one id
then_equal : (a b : Ordering) → ordering_then a b ≡ Equal → b ≡ Equal
then_equal Less b e = absurd (cc e)
then_equal Equal b e = e
then_equal Greater b e = absurd (cc e)

tied_ids : (one other : ListedCopy) → copy_cmp one other ≡ Equal → one.id ≡ other.id
tied_ids one other e =
    let nodes = ordering_then (nat_cmp one.stamp.node other.stamp.node) (id_cmp one.id other.id) in
    let boots = ordering_then (nat_cmp one.stamp.boot other.stamp.boot) nodes in
    id_exact one.id other.id (then_equal (nat_cmp one.stamp.node other.stamp.node) (id_cmp one.id other.id)
    (then_equal (nat_cmp one.stamp.boot other.stamp.boot) nodes (then_equal (nat_cmp one.stamp.count other.stamp.count) boots e)))

-- what does not come after another, and has another id, comes before it
comes_before : (one other : ListedCopy) → is_lt (copy_cmp other one) ≡ false → (one.id ≡ other.id → ⊥) → IsListedBefore one other
comes_before one other not_after apart = by (copy_cmp other one) refl not_after
  where
    by : (o : Ordering) → copy_cmp other one ≡ o → is_lt o ≡ false → is_lt (copy_cmp one other) ≡ true
    by Less e f = absurd (true≢false f)
    by Equal e f = absurd (apart (sym (tied_ids other one e)))
    by Greater e f = ap is_lt (copy_total.antisymm one other ∙ ap ordering_reverse e)

-- how often an id stands in a list
abbrev is_of : Id → Item → ℕ
is_of id item = cond (is_same_id item.id id) 1 0

abbrev times : Id → List Item → ℕ
times id items = sum_by (is_of id) items

part_of_sum : {X : Type 0} (f : X → ℕ) (xs : List X) (k : ℕ) (d : X) → k < length xs → f (get_or xs k d) ≤ sum_by f xs
part_of_sum f [] k d lt = absurd (omega (arith, lt))
part_of_sum f (x ∷ xs) zero d lt = omega (arith, sum_by-cons f x xs)
part_of_sum f (x ∷ xs) (suc k) d lt = omega (arith, sum_by-cons f x xs, part_of_sum f xs k d (omega (arith, lt)))

none_of : (id : Id) (items : List Item) → ((other : Item) → Among other items → other.id ≡ id → ⊥) → times id items ≡ 0
none_of id [] apart = refl
none_of id (item ∷ items) apart = omega (arith, sum_by-cons (is_of id) item items, first (is_same_id item.id id) refl, none_of id items (λ other m e. apart other (inr m) e))
  where
    first : (b : Bool) → is_same_id item.id id ≡ b → ◌≡◌ {A = ℕ} (cond b 1 0) 0
    first false e = refl
    first true e = absurd (apart item (inl refl) (id_is item.id id e))

once : (items : List Item) → Rise items → (id : Id) → times id items ≤ 1
once [] rise id = omega arith
once (item ∷ items) rise id = by (is_same_id item.id id) refl (once items rise.1 id)
  where
    never : (i : Id) → id_cmp i i ≡ Less → ⊥
    never i e = let wrong : Equal ≡ Less = sym (tied_itself id_total i) ∙ e in cc wrong

    by : (b : Bool) → is_same_id item.id id ≡ b → times id items ≤ 1 → times id (item ∷ items) ≤ 1
    by false e more = omega (arith, sum_by-cons (is_of id) item items, ap (λ (t : Bool). ◌+◌ 0 (cond t 1 0)) e, more)
    by true e more =
        let none : times id items ≡ 0 = none_of id items (λ other m same. never item.id (subst (λ (i : Id). id_cmp item.id i ≡ Less) (same ∙ sym (id_is item.id id e)) (rise.0 other m))) in
        omega (arith, sum_by-cons (is_of id) item items, ap (λ (t : Bool). ◌+◌ 0 (cond t 1 0)) e, none)

-- one stands apart from another, and before it
abbrev IsAhead : LoginItem → LoginItem → Type 0
IsAhead one other = (one.id ≢ other.id) × IsListedBefore (as_copy one) (as_copy other)

rising : (items : List Item) → AreByStamps items → ((id : Id) → times id items ≤ 1) → AllPairs IsAhead (map login_item items)
rising [] ordered few = λ i j d lt within. absurd (omega (arith, within))
rising (item ∷ items) ordered few =
    AllPairs-cons IsAhead (login_item item) (map login_item items)
    (All-map (IsAhead (login_item item)) login_item items (λ k d lt. (
      apart k d lt,
      comes_before (copy_seen item) (copy_seen (get_or items k d))
          (sorted_far comes_first by_stamps (item ∷ items) ordered zero (suc k) d (omega arith) (omega (arith, lt)))
          (apart k d lt),
    )))
    (rising items (λ k d low high. subst (λ (m : ℕ). comes_first (get_or (item ∷ items) m d) (get_or items k d) ≡ false) (next k) (ordered (suc k) d (omega arith) (omega (arith, high))))
    (λ id. omega (arith, few id, sum_by-cons (is_of id) item items)))
  where
    next : (k : ℕ) → suc k + 1 ≡ suc (k + 1)
    next k = omega arith

    apart : (k : ℕ) (d : Item) → k < length items → item.id ≡ (get_or items k d).id → ⊥
    apart k d lt same =
        let first : is_of item.id item ≡ 1 = ap (λ (b : Bool). cond b 1 0) (id_self item.id) in
        let again : is_of item.id (get_or items k d) ≡ 1 = ap (λ (i : Id). cond (is_same_id i item.id) 1 0) (sym same) ∙ first in
        omega (arith, few item.id, sum_by-cons (is_of item.id) item items, first, again, part_of_sum (is_of item.id) items k d lt)

-- what is among a list is contained in it
contains : {X : Type 0} (x : X) (xs : List X) → Among x xs → Contains xs x
contains x [] m = absurd m
contains x (y ∷ ys) (inl e) = (0, omega arith, e)
contains x (y ∷ ys) (inr m) = let at = contains x ys m in (suc at.0, omega (arith, at.1), at.2)

among : {X : Type 0} (x : X) (xs : List X) → Contains xs x → Among x xs
among x [] at = absurd (omega (arith, at.1))
among x (y ∷ ys) (zero, lt, is) = inl is
among x (y ∷ ys) (suc k, lt, is) = inr (among x ys (k, omega (arith, lt), is))

among_permuted : {X : Type 0} (x : X) (xs ys : List X) → IsPermutation xs ys → Among x xs → Among x ys
among_permuted x xs ys p m = among x ys (Contains-permutation xs ys x p (contains x xs m))

among_left : {X : Type 0} (x : X) (xs ys : List X) → Among x xs → Among x (xs ++ ys)
among_left x [] ys m = absurd m
among_left x (y ∷ xs) ys m = ⊎_elim (λ e. inl e) (λ n. inr (among_left x xs ys n)) m

among_right : {X : Type 0} (x : X) (xs ys : List X) → Among x ys → Among x (xs ++ ys)
among_right x [] ys m = m
among_right x (y ∷ xs) ys m = inr (among_right x xs ys m)

among_either : {X : Type 0} (x : X) (xs ys : List X) → Among x (xs ++ ys) → Among x xs ⊎ Among x ys
among_either x [] ys m = inr m
among_either x (y ∷ xs) ys (inl e) = inl (inl e)
among_either x (y ∷ xs) ys (inr m) = ⊎_elim (λ l. inl (inr l)) (λ r. inr r) (among_either x xs ys m)

-- what was told by a node of one message
pub record IsToldBy (told : List ToldList) (item : Item) : Type 0 where
  pub list : ToldList
  pub inside : Among list told
  pub one : ToldItem
  pub here : Among one list.items
  pub is : told_by list.node one ≡ item

told_among : (told : List ToldList) (item : Item) → IsToldBy told item → Among item (all_told told)
told_among told item t = subst (λ (x : Item). Among x (all_told told)) t.is (by told t.list t.one t.inside t.here)
  where
    by : (lists : List ToldList) (list : ToldList) (one : ToldItem) → Among list lists → Among one list.items → Among (told_by list.node one) (all_told lists)
    by [] list one m n = absurd m
    by (first ∷ lists) list one (inl e) n = among_left (told_by list.node one) (map (told_by first.node) first.items) (all_told lists)
        (subst (λ (l : ToldList). Among (told_by list.node one) (map (told_by l.node) l.items)) (sym e) (map_among (told_by list.node) one list.items n))
    by (first ∷ lists) list one (inr m) n = among_right (told_by list.node one) (map (told_by first.node) first.items) (all_told lists) (by lists list one m n)

among_told : (told : List ToldList) (item : Item) → Among item (all_told told) → IsToldBy told item
among_told [] item m = absurd m
among_told (list ∷ lists) item m = ⊎_elim
    (λ l. let x = among_map (told_by list.node) item list.items l in record { list = list; inside = inl refl; one = x.0; here = x.1; is = x.2 })
    (λ r. let t = among_told lists item r in record { list = t.list; inside = inr t.inside; one = t.one; here = t.here; is = t.is })
    (among_either item (map (told_by list.node) list.items) (all_told lists) m)

-- a node is in the set that it makes
is_in : (n : ℕ) → nat_le 1 n ≡ true → nat_le n 16 ≡ true → has (with_node 0 n) n ≡ true
is_in zero low high = absurd (true≢false (sym low))
is_in (suc k) low high =
    let few : k < 64 = grind (arith, nat_tests, high) in
    has_right 0 (one_node (suc k)) (suc k) (one_has k few)

of_node : (told : List ToldList) → list_all is_of_node told ≡ true → (list : ToldList) → Among list told → is_of_node list ≡ true
of_node [] all list m = absurd m
of_node (first ∷ lists) all list (inl e) = subst (λ (l : ToldList). is_of_node l ≡ true) e (and_parts (is_of_node first) (list_all is_of_node lists) all).0
of_node (first ∷ lists) all list (inr m) = of_node lists (and_parts (is_of_node first) (list_all is_of_node lists) all).1 list m

module _ (told : List ToldList) (nodes : list_all is_of_node told ≡ true) (item : Item) (is : IsJoinOf (λ one. Among one (all_told told)) item) where
  -- what lists told of the message, and what was told by some node
  told_of : (one : Item) → Among one (all_told told) → one.id ≡ item.id → (t : IsToldBy told one) × IsToldOf told item.id t.list.node t.one
  told_of one m same =
      let t = among_told told one m in
      (t, record { list = t.list; inside = t.inside; from = refl; item = t.here; same = ap (λ (x : Item). x.id) t.is ∙ same })

  piece : (m : ℕ) (one : ToldItem) → (t : IsToldOf told item.id m one) → Among (told_by t.list.node one) (all_told told)
  piece m one t = told_among told (told_by t.list.node one) (record { list = t.list; inside = t.inside; one = one; here = t.item; is = refl })

  holds_own : (list : ToldList) → Among list told → has (with_node 0 list.node) list.node ≡ true
  holds_own list m = let both = and_parts (nat_le 1 list.node) (nat_le list.node 16) (of_node told nodes list m) in is_in list.node both.0 both.1

  latest_told : SomeTold told item.id (λ m one. (one.stamp ≡ item.stamp) × (one.size ≡ item.length))
  latest_told =
      let x = is.latest in
      let t = told_of x.0 x.1 x.2 in
      record { m = t.0.list.node; one = t.0.one; is = t.1; holds = (ap (λ (y : Item). y.stamp) t.0.is ∙ x.3, ap (λ (y : Item). y.length) t.0.is ∙ x.4) }

  target_told : (n : ℕ) → has item.targets n ≡ true → SomeTold told item.id (λ m one. has one.targets n ≡ true)
  target_told n h =
      let x = (is.targets n).0 h in
      let t = told_of x.0 x.1 x.2 in
      record { m = t.0.list.node; one = t.0.one; is = t.1; holds = subst (λ (y : Item). has y.targets n ≡ true) (sym t.0.is) x.3 }

  holder_told : (n : ℕ) → has item.holders n ≡ true → SomeTold told item.id (λ m one. m ≡ n)
  holder_told n h =
      let x = (is.holders n).0 h in
      let t = told_of x.0 x.1 x.2 in
      let own : has (with_node 0 t.0.list.node) n ≡ true = subst (λ (y : Item). has y.holders n ≡ true) (sym t.0.is) x.3 in
      record { m = t.0.list.node; one = t.0.one; is = t.1; holds = ⊎_elim (λ none. absurd (true≢false (sym none ∙ has_none n))) (λ same. sym same) (has_with 0 t.0.list.node n own) }

  merged : IsMergedItem told (login_item item)
  merged = record {
    latest = latest_told;
    none_later = λ m one t. is.none_later (told_by t.list.node one) (piece m one t) t.same;
    targets = λ n. (
      target_told n,
      λ s. (is.targets n).1 (told_by s.is.list.node s.one, piece s.m s.one s.is, s.is.same, s.holds),
    );
    holders = λ n. (
      holder_told n,
      λ s. (is.holders n).1 (told_by s.is.list.node s.one, piece s.m s.one s.is, s.is.same, subst (λ (k : ℕ). has (with_node 0 s.is.list.node) k ≡ true) (s.is.from ∙ s.holds) (holds_own s.is.list s.is.inside)),
    );
  }

-- all that was told, sorted by id, with neighbours joined, and sorted by stamp
pub is_merge : (told : List ToldList) (sorted final : List Item) → list_all is_of_node told ≡ true → IsPermutation (all_told told) sorted → AreByIds sorted
    → IsPermutation (runs_of sorted) final → AreByStamps final → IsMergeOfTold told (map login_item final)
is_merge told sorted final nodes moved by_id moved_again by_stamp =
    let r : AreRuns (λ one. Among one sorted) (runs_of sorted) = runs_of_join sorted (ascends sorted by_id) in
    let few : (id : Id) → times id final ≤ 1 = λ id. omega (arith, sum_by-IsPermutation (is_of id) (runs_of sorted) final moved_again, once (runs_of sorted) r.rise id) in
    let pairs : AllPairs IsAhead (map login_item final) = rising final by_stamp few in
    record {
      each = λ item m.
          let x = among_map login_item item final m in
          let j = r.joined_are.each x.0 (among_permuted x.0 final (runs_of sorted) (IsPermutation-sym (runs_of sorted) final moved_again) x.1) in
          subst (IsMergedItem told) x.2 (merged told nodes x.0 (join_of_same (λ one. Among one sorted) (λ one. Among one (all_told told)) x.0
          (λ one s n. among_permuted one sorted (all_told told) (IsPermutation-sym (all_told told) sorted moved) n) (λ one s n. among_permuted one (all_told told) sorted moved n) j));
      all = λ id m one t.
          let was = told_among told (told_by t.list.node one) (record { list = t.list; inside = t.inside; one = one; here = t.item; is = refl }) in
          let x = r.joined_are.all (told_by t.list.node one) (among_permuted (told_by t.list.node one) (all_told told) sorted moved was) in
          (login_item x.0, map_among login_item x.0 final (among_permuted x.0 (runs_of sorted) final moved_again x.1), x.2 ∙ t.same);
      once = λ i j d low high. (pairs i j d low high).0;
      rising = λ i j d low high. (pairs i j d low high).1;
    }
