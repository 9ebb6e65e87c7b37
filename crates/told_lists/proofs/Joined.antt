-- What was told of messages in order of their ids, with neighbours of one id joined: each id stands once, and has what was told of it.
use Rattle.std.proofs.Common.{◌≡◌, ◌≢◌, inl, inr, ◌⊎◌, ⊎_elim, ℕ, zero, suc, ◌+◌, ◌<◌, ◌≤◌, ◌||◌, Bool, true, false, List, [], ◌∷◌, ◌++◌, length, get_or, refl, sym, ap, subst, ◌∙◌, true≢false, arith, if◌then◌else◌, bit_or}
use Rattle.std.specs.Prelude.{⊤, ◌↔◌}
use Rattle.std.specs.Ordering.{nat_cmp, is_lt, is_eq, eq_by_cmp, ordering_reverse}
use Rattle.std.specs.declared.cmp.Ordering.{Ordering}
use Rattle.std.specs.declared.cmp.Ordering.TheVariants.{Less, Equal, Greater}
use Rattle.std.specs.Cmp.{IsTotalOrder, IsStrictWeakOrder, tied_itself}
use Rattle.std.specs.List.Sorted.{IsSortedBy}
use Rattle.std.proofs.lemmas.List.Sorted.{ranks_by, sorted_far}
use Rattle.mail_model.specs.Identity.{Id, Stamp}
use Rattle.object_model.specs.Keys.{id_cmp}
use Rattle.object_model.specs.Lists.{Among}
use Rattle.object_model.specs.Sets.{has}
use Rattle.object_model.proofs.MapLaws.{id_total, id_exact}
use Rattle.object_model.proofs.SetLaws.{or_has, has_left, has_right}
use Rattle.mail_base.specs.Orders.{stamp_total}
use Rattle.mail_base.specs.declared.item.Item.{Item}
use Rattle.login_model.specs.Listing.{stamp_cmp, is_later}
use Rattle.told_lists.specs.Joining.{later, joined, runs, runs_of, has_lower_id, AreByIds}

-- What was told of one message, joined: where P holds of each that was told.
pub record IsJoinOf (P : Item → Type 0) (item : Item) : Type 0 where
  pub latest : (one : Item) × P one × (one.id ≡ item.id) × (one.stamp ≡ item.stamp) × (one.length ≡ item.length)
  pub none_later : (one : Item) → P one → one.id ≡ item.id → is_later one.stamp item.stamp ≡ false
  pub targets : (n : ℕ) → (has item.targets n ≡ true) ↔ ((one : Item) × P one × (one.id ≡ item.id) × (has one.targets n ≡ true))
  pub holders : (n : ℕ) → (has item.holders n ≡ true) ↔ ((one : Item) × P one × (one.id ≡ item.id) × (has one.holders n ≡ true))

-- Each message that was told stands among the items, joined.
pub record AreJoined (P : Item → Type 0) (items : List Item) : Type 0 where
  pub each : (item : Item) → Among item items → IsJoinOf P item
  pub all : (one : Item) → P one → (item : Item) × Among item items × (item.id ≡ one.id)

-- where just the same was told of the message
pub join_of_same : (P Q : Item → Type 0) (item : Item) → ((one : Item) → one.id ≡ item.id → P one → Q one) → ((one : Item) → one.id ≡ item.id → Q one → P one) → IsJoinOf P item → IsJoinOf Q item
join_of_same P Q item to back is = record {
  latest = (is.latest.0, to is.latest.0 is.latest.2 is.latest.1, is.latest.2, is.latest.3, is.latest.4);
  none_later = λ one q same. is.none_later one (back one same q) same;
  targets = λ n. (
    λ h. let x = (is.targets n).0 h in (x.0, to x.0 x.2 x.1, x.2, x.3),
    λ x. (is.targets n).1 (x.0, back x.0 x.2 x.1, x.2, x.3),
  );
  holders = λ n. (
    λ h. let x = (is.holders n).0 h in (x.0, to x.0 x.2 x.1, x.2, x.3),
    λ x. (is.holders n).1 (x.0, back x.0 x.2 x.1, x.2, x.3),
  );
}

-- one that was told alone
alone : (item : Item) → IsJoinOf (λ one. item ≡ one) item
alone item = record {
  latest = (item, refl, refl, refl, refl);
  none_later = λ one e same. subst (λ (x : Item). is_later x.stamp item.stamp ≡ false) e (not_after_itself item.stamp);
  targets = λ n. (λ h. (item, refl, refl, h), λ x. subst (λ (y : Item). has y.targets n ≡ true) (sym x.1) x.3);
  holders = λ n. (λ h. (item, refl, refl, h), λ x. subst (λ (y : Item). has y.holders n ≡ true) (sym x.1) x.3);
}
  where
    not_after_itself : (s : Stamp) → is_later s s ≡ false
    not_after_itself s = ap is_lt (tied_itself stamp_total s)

less_is : (o : Ordering) → is_lt o ≡ true → o ≡ Less
less_is Less e = refl
less_is Equal e = absurd (true≢false (sym e))
less_is Greater e = absurd (true≢false (sym e))

not_less : (b : Bool) → (b ≡ true → ⊥) → b ≡ false
not_less true f = absurd (f refl)
not_less false f = refl

-- what is not later than one stamp is not later than a later one
still_not_later : (x y z : Stamp) → is_later x y ≡ false → is_later z y ≡ true → is_later x z ≡ false
still_not_later x y z not_x z_later = not_less (is_later x z) (λ x_later.
    true≢false (sym (ap is_lt (stamp_total.trans y z x (less_is (stamp_cmp y z) z_later) (less_is (stamp_cmp z x) x_later))) ∙ not_x))

-- one more that was told of the message
module _ (P : Item → Type 0) (a b : Item) (is : IsJoinOf P a) (same : b.id ≡ a.id) where
  abbrev Both : Item → Type 0
  Both one = P one ⊎ (b ≡ one)

  abbrev pick : Bool → Item
  pick t = if t then b else a

  latest_of : (t : Bool) → (one : Item) × Both one × (one.id ≡ a.id) × (one.stamp ≡ (pick t).stamp) × (one.length ≡ (pick t).length)
  latest_of true = (b, inr refl, same, refl, refl)
  latest_of false = (is.latest.0, inl is.latest.1, is.latest.2, is.latest.3, is.latest.4)

  none_later_than : (t : Bool) → is_later b.stamp a.stamp ≡ t → (one : Item) → Both one → one.id ≡ a.id → is_later one.stamp (pick t).stamp ≡ false
  none_later_than true e one (inl p) s = still_not_later one.stamp a.stamp b.stamp (is.none_later one p s) e
  none_later_than true e one (inr i) s = subst (λ (x : Item). is_later x.stamp b.stamp ≡ false) i (ap is_lt (tied_itself stamp_total b.stamp))
  none_later_than false e one (inl p) s = is.none_later one p s
  none_later_than false e one (inr i) s = subst (λ (x : Item). is_later x.stamp a.stamp ≡ false) i e

  pub one_more : IsJoinOf Both (joined a b)
  one_more = record {
    latest = latest_of (is_later b.stamp a.stamp);
    none_later = none_later_than (is_later b.stamp a.stamp) refl;
    targets = λ n. (
      λ h. ⊎_elim (λ l. let x = (is.targets n).0 l in (x.0, inl x.1, x.2, x.3)) (λ r. (b, inr refl, same, r)) (or_has a.targets b.targets n h),
      λ x. ⊎_elim (λ p. has_left a.targets b.targets n ((is.targets n).1 (x.0, p, x.2, x.3))) (λ i. has_right a.targets b.targets n (subst (λ (y : Item). has y.targets n ≡ true) (sym i) x.3)) x.1,
    );
    holders = λ n. (
      λ h. ⊎_elim (λ l. let x = (is.holders n).0 l in (x.0, inl x.1, x.2, x.3)) (λ r. (b, inr refl, same, r)) (or_has a.holders b.holders n h),
      λ x. ⊎_elim (λ p. has_left a.holders b.holders n ((is.holders n).1 (x.0, p, x.2, x.3))) (λ i. has_right a.holders b.holders n (subst (λ (y : Item). has y.holders n ≡ true) (sym i) x.3)) x.1,
    );
  }

-- no id is below one that came before
abbrev pub Ascend : List Item → Type 0
Ascend [] = ⊤
Ascend (item ∷ items) = ((other : Item) → Among other items → has_lower_id other item ≡ false) × Ascend items

-- and each id is above those before
abbrev pub Rise : List Item → Type 0
Rise [] = ⊤
Rise (item ∷ items) = ((other : Item) → Among other items → id_cmp item.id other.id ≡ Less) × Rise items

-- which of two ids is lower, where they differ
differ : (i j : Id) → eq_by_cmp id_cmp i j ≡ false → is_lt (id_cmp j i) ≡ false → id_cmp i j ≡ Less
differ i j e f = by (id_cmp i j) refl
  where
    by : (o : Ordering) → id_cmp i j ≡ o → o ≡ Less
    by Less h = refl
    by Equal h = absurd (true≢false (sym (ap is_eq h) ∙ e))
    by Greater h = absurd (true≢false (sym (ap is_lt (id_total.antisymm j i ∙ ap ordering_reverse h)) ∙ f))

same_id : (i j : Id) → eq_by_cmp id_cmp i j ≡ true → i ≡ j
same_id i j e = id_exact i j (by (id_cmp i j) e)
  where
    by : (o : Ordering) → is_eq o ≡ true → o ≡ Equal
    by Less h = absurd (true≢false (sym h))
    by Equal h = refl
    by Greater h = absurd (true≢false (sym h))

-- an id that is above another is above what is no higher than that
above_lower : (i j k : Id) → id_cmp i j ≡ Less → is_lt (id_cmp k j) ≡ false → id_cmp i k ≡ Less
above_lower i j k low high = by (id_cmp k j) refl high
  where
    by : (o : Ordering) → id_cmp k j ≡ o → is_lt o ≡ false → id_cmp i k ≡ Less
    by Less e f = absurd (true≢false f)
    by Equal e f = subst (λ (x : Id). id_cmp i x ≡ Less) (sym (id_exact k j e)) low
    by Greater e f = id_total.trans i j k low (id_total.antisymm j k ∙ ap ordering_reverse e)

never_less : (i : Id) → id_cmp i i ≡ Less → ⊥
never_less i e = let never : Equal ≡ Less = sym (tied_itself id_total i) ∙ e in cc never

-- each that was told stands once, and ids rise
pub record AreRuns (P : Item → Type 0) (items : List Item) : Type 0 where
  pub joined_are : AreJoined P items
  pub rise : Rise items

runs_of_same : (P Q : Item → Type 0) (items : List Item) → ((one : Item) → P one → Q one) → ((one : Item) → Q one → P one) → AreRuns P items → AreRuns Q items
runs_of_same P Q items to back r = record {
  joined_are = record {
    each = λ item m. join_of_same P Q item (λ one s p. to one p) (λ one s q. back one q) (r.joined_are.each item m);
    all = λ one q. r.joined_are.all one (back one q);
  };
  rise = r.rise;
}

-- what is behind an item of a higher id
module _ (P : Item → Type 0) (current item : Item) (items : List Item) (is : IsJoinOf P current) (own : (one : Item) → P one → one.id ≡ current.id) (low : id_cmp current.id item.id ≡ Less)
    (up : Ascend (item ∷ items)) (rest : List Item) (r : AreRuns (λ one. Among one (item ∷ items)) rest) where
  abbrev Either : Item → Type 0
  Either one = P one ⊎ Among one (item ∷ items)

  higher : (one : Item) → Among one (item ∷ items) → id_cmp current.id one.id ≡ Less
  higher one (inl e) = subst (λ (x : Item). id_cmp current.id x.id ≡ Less) e low
  higher one (inr m) = above_lower current.id item.id one.id low (up.0 one m)

  apart : (one : Item) → Among one (item ∷ items) → one.id ≡ current.id → ⊥
  apart one m e = never_less current.id (subst (λ (i : Id). id_cmp current.id i ≡ Less) e (higher one m))

  -- an id of the rest was told of the others
  of_others : (other : Item) → Among other rest → (one : Item) × Among one (item ∷ items) × (one.id ≡ other.id)
  of_others other m = let l = (r.joined_are.each other m).latest in (l.0, l.1, l.2)

  each_of : (other : Item) → Among other (current ∷ rest) → IsJoinOf Either other
  each_of other (inl e) = subst (IsJoinOf Either) e (join_of_same P Either current (λ one s p. inl p) (λ one s q. ⊎_elim (λ p. p) (λ m. absurd (apart one m s)) q) is)
  each_of other (inr m) = join_of_same (λ one. Among one (item ∷ items)) Either other (λ one s n. inr n)
      (λ one s q. ⊎_elim (λ p. absurd (let o = of_others other m in apart o.0 o.1 (o.2 ∙ sym s ∙ own one p))) (λ n. n) q) (r.joined_are.each other m)

  pub one_before : AreRuns Either (current ∷ rest)
  one_before = record {
    joined_are = record {
      each = each_of;
      all = λ one q. ⊎_elim (λ p. (current, inl refl, sym (own one p))) (λ m. let x = r.joined_are.all one m in (x.0, inr x.1, x.2)) q;
    };
    rise = (λ other m. let o = of_others other m in subst (λ (i : Id). id_cmp current.id i ≡ Less) o.2 (higher o.0 o.1), r.rise);
  }

-- the runs of what is in order of ids
pub runs_join : (P : Item → Type 0) (current : Item) (items : List Item) → IsJoinOf P current → ((one : Item) → P one → one.id ≡ current.id) → Ascend (current ∷ items)
    → AreRuns (λ one. P one ⊎ Among one items) (runs current items)
runs_join P current [] is own up = record {
  joined_are = record {
    each = λ other m. ⊎_elim (λ e. subst (IsJoinOf (λ one. P one ⊎ Among one [])) e (join_of_same P (λ one. P one ⊎ Among one []) current (λ one s p. inl p) (λ one s q. ⊎_elim (λ p. p) (λ n. absurd n) q) is)) (λ n. absurd n) m;
    all = λ one q. ⊎_elim (λ p. (current, inl refl, sym (own one p))) (λ n. absurd n) q;
  };
  rise = (λ other m. absurd m, tt);
}
runs_join P current (item ∷ items) is own up = by (eq_by_cmp id_cmp current.id item.id) refl
    (λ e. runs_join (λ one. P one ⊎ (item ≡ one)) (joined current item) items (one_more P current item is (sym (same_id current.id item.id e)))
    (λ one q. ⊎_elim (own one) (λ i. ap (λ (x : Item). x.id) (sym i) ∙ sym (same_id current.id item.id e)) q) (λ other m. up.0 other (inr m), up.1.1))
    (runs_join (λ one. item ≡ one) item items (alone item) (λ one e. ap (λ (x : Item). x.id) (sym e)) up.1)
  where
    by : (b : Bool) → eq_by_cmp id_cmp current.id item.id ≡ b
        → (eq_by_cmp id_cmp current.id item.id ≡ true → AreRuns (λ one. (P one ⊎ (item ≡ one)) ⊎ Among one items) (runs (joined current item) items))
        → AreRuns (λ one. Among one (item ∷ items)) (runs item items)
        → AreRuns (λ one. P one ⊎ Among one (item ∷ items)) (if b then runs (joined current item) items else current ∷ runs item items)
    by true e more other = runs_of_same (λ one. (P one ⊎ (item ≡ one)) ⊎ Among one items) (λ one. P one ⊎ Among one (item ∷ items)) (runs (joined current item) items)
        (λ one q. ⊎_elim (λ x. ⊎_elim (λ p. inl p) (λ i. inr (inl i)) x) (λ m. inr (inr m)) q)
        (λ one q. ⊎_elim (λ p. inl (inl p)) (λ x. ⊎_elim (λ i. inl (inr i)) (λ m. inr m) x) q) (more e)
    by false e more other = one_before P current item items is own (differ current.id item.id e (up.0 item (inl refl))) up.1 (runs item items) other

pub runs_of_join : (items : List Item) → Ascend items → AreRuns (λ one. Among one items) (runs_of items)
runs_of_join [] up = record { joined_are = record { each = λ item m. absurd m; all = λ one m. absurd m }; rise = tt }
runs_of_join (item ∷ items) up = runs_join (λ one. item ≡ one) item items (alone item) (λ one e. ap (λ (x : Item). x.id) (sym e)) up

-- what is among a list has a place there
pub place_of : {X : Type 0} (x : X) (xs : List X) → Among x xs → (k : ℕ) × (k < length xs) × ((d : X) → get_or xs k d ≡ x)
place_of x [] m = absurd m
place_of x (first ∷ xs) (inl e) = (0, omega arith, λ d. e)
place_of x (first ∷ xs) (inr m) = let at = place_of x xs m in (suc at.0, omega (arith, at.1), at.2)

pub by_ids : IsStrictWeakOrder has_lower_id
by_ids = ranks_by id_total (λ (item : Item). item.id)

-- a list that was sorted by ids
pub ascends : (items : List Item) → AreByIds items → Ascend items
ascends [] ordered = tt
ascends (item ∷ items) ordered = (
  λ other m. let at = place_of other items m in
      subst (λ (x : Item). has_lower_id x item ≡ false) (at.2 item) (sorted_far has_lower_id by_ids (item ∷ items) ordered zero (suc at.0) item (omega arith) (omega (arith, at.1))),
  ascends items (λ k d low high. subst (λ (m : ℕ). has_lower_id (get_or (item ∷ items) m d) (get_or items k d) ≡ false) (next k) (ordered (suc k) d (omega arith) (omega (arith, high)))),
)
  where
    next : (k : ℕ) → suc k + 1 ≡ suc (k + 1)
    next k = omega arith
