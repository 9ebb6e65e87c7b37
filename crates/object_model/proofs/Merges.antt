-- The join of states, whatever their order and number.
use Rattle.std.proofs.Common.{◌≡◌, ◌⊎◌, inl, inr, ⊎_elim, ℕ, ◌<◌, Bool, true, false, cond, List, [], ◌∷◌, ◌++◌, Option, Some, None, refl, sym, ◌∙◌, ap, subst, arith, nat_eq, bit_or}
use Rattle.std.specs.Prelude.{◌↔◌, max}
use Rattle.std.specs.Int.{bit_at}
use Rattle.std.specs.Ordering.{ordering_then, nat_cmp, is_lt, is_gt, ordering_reverse}
use Rattle.std.specs.Cmp.{tied_itself}
use Rattle.std.specs.Cmp.Lexicographic.{slice_cmp}
use Rattle.std.specs.declared.cmp.Ordering.{Ordering}
use Rattle.std.specs.declared.cmp.Ordering.TheVariants.{Less, Equal, Greater}
use Rattle.std.proofs.lemmas.Cmp.{upto}
use Rattle.std.proofs.lemmas.Bool.Decides.{nat_tests}
use Rattle.std.proofs.lemmas.Nat.Bits.{bit_at_or, bit_at-lt, same_from_bits}
use Rattle.std.proofs.lemmas.Map.Lookups.{exact_pairs, exact_unsigned, exact_bytes}
use Rattle.mail_model.specs.Identity.{Id, Stamp, Key, Value, State}
use Rattle.mail_model.specs.Identity.Key.{Message}
use Rattle.mail_model.specs.Identity.Value.{Here, Gone, Secret}
use Rattle.mail_model.specs.Record.{Record, rank_of}
use Rattle.mail_model.specs.Record.Record.{Boot, Promise, Octets, Stated, Retired}
use Rattle.object_model.specs.Lists.{Among}
use Rattle.object_model.specs.Keys.{is_same_key}
use Rattle.object_model.specs.States.{secret_in, state_cmp, is_below, later, joined, join_with, join_after, join_all}
use Rattle.mail_model.specs.Grammar.{IsOfKind}
use Rattle.object_model.specs.Merge.{IsMerge}
use Rattle.object_model.specs.Said.{said, held_after, states_in}
use Rattle.object_model.proofs.Lists.{among_front, among_last, among_behind}
use Rattle.object_model.proofs.StateLaws.{state_total}

same_kind : (a b : Value) → rank_of a ≡ rank_of b → secret_in a ≡ secret_in b → a ≡ b
same_kind Here Here k s = refl
same_kind Here Gone k s = absurd (omega (arith, k))
same_kind Here (Secret y) k s = absurd (omega (arith, k))
same_kind Gone Here k s = absurd (omega (arith, k))
same_kind Gone Gone k s = refl
same_kind Gone (Secret y) k s = absurd (omega (arith, k))
same_kind (Secret x) Here k s = absurd (omega (arith, k))
same_kind (Secret x) Gone k s = absurd (omega (arith, k))
same_kind (Secret x) (Secret y) k s = ap Secret s

Parts : Type 0
Parts = ℕ × (ℕ × (ℕ × (ℕ × List ℕ)))

abbrev parts_of : State → ℕ × (ℕ × (ℕ × (ℕ × List ℕ)))
parts_of s = (rank_of s.value, (s.stamp.count, (s.stamp.boot, (s.stamp.node, secret_in s.value))))

-- states that compare alike agree but for their targets
pub tied : (a b : State) → state_cmp a b ≡ Equal → (a.value ≡ b.value) × (a.stamp ≡ b.stamp)
tied a b h =
    let e : parts_of a ≡ parts_of b = exact_pairs nat_cmp (λ (x y : ℕ × (ℕ × (ℕ × List ℕ))). ordering_then (nat_cmp x.0 y.0) (ordering_then (nat_cmp x.1.0 y.1.0) (ordering_then (nat_cmp x.1.1.0 y.1.1.0) (slice_cmp nat_cmp x.1.1.1 y.1.1.1))))
    exact_unsigned
    (exact_pairs nat_cmp (λ (x y : ℕ × (ℕ × List ℕ)). ordering_then (nat_cmp x.0 y.0) (ordering_then (nat_cmp x.1.0 y.1.0) (slice_cmp nat_cmp x.1.1 y.1.1)))
    exact_unsigned
    (exact_pairs nat_cmp (λ (x y : ℕ × List ℕ). ordering_then (nat_cmp x.0 y.0) (slice_cmp nat_cmp x.1 y.1)) exact_unsigned (exact_pairs nat_cmp (slice_cmp nat_cmp) exact_unsigned exact_bytes)))
    (parts_of a) (parts_of b) h in
    let counts : a.stamp.count ≡ b.stamp.count = ap (λ (p : ℕ × (ℕ × (ℕ × (ℕ × List ℕ)))). p.1.0) e in
    let boots : a.stamp.boot ≡ b.stamp.boot = ap (λ (p : ℕ × (ℕ × (ℕ × (ℕ × List ℕ)))). p.1.1.0) e in
    let nodes : a.stamp.node ≡ b.stamp.node = ap (λ (p : ℕ × (ℕ × (ℕ × (ℕ × List ℕ)))). p.1.1.1.0) e in (
      same_kind a.value b.value (ap (λ (p : ℕ × (ℕ × (ℕ × (ℕ × List ℕ)))). p.0) e) (ap (λ (p : ℕ × (ℕ × (ℕ × (ℕ × List ℕ)))). p.1.1.1.1) e),
      λ i. record { count = counts i; boot = boots i; node = nodes i },
    )

by_two : (r s : Ordering) → r ≡ ordering_reverse s → is_lt r ≡ false → is_lt s ≡ false → r ≡ Equal
by_two Less s e h k = cc
by_two Equal s e h k = refl
by_two Greater Less e h k = cc
by_two Greater Equal e h k = cc
by_two Greater Greater e h k = cc

-- two states neither of which is below the other
both_ways : (a b : State) → is_below a b ≡ false → is_below b a ≡ false → state_cmp a b ≡ Equal
both_ways a b h k = by_two (state_cmp a b) (state_cmp b a) (state_total.antisymm a b) h k

like : (m t x : State) → m.value ≡ t.value → m.stamp ≡ t.stamp → is_below x t ≡ is_below x m
like m t x v s = cc

bit_same : (a b : ℕ) → a < 2 → b < 2 → (a ≡ 1 → b ≡ 1) → (b ≡ 1 → a ≡ 1) → a ≡ b
bit_same a b la lb f g = by (nat_eq a 1) refl (nat_eq b 1) refl
  where
    by : (x : Bool) → nat_eq a 1 ≡ x → (y : Bool) → nat_eq b 1 ≡ y → a ≡ b
    by true p y q = let e : a ≡ 1 = grind (arith, nat_tests) in e ∙ sym (f e)
    by false p true q = let e : b ≡ 1 = grind (arith, nat_tests) in g e ∙ sym e
    by false p false q = grind (arith, nat_tests)

not_above : (ss ts : List State) (m n : State) → ((s : State) → Among s ts → Among s ss) → IsMerge ss m → IsMerge ts n → is_below m n ≡ false
not_above ss ts m n to p q = sym (like n q.top m q.same_value q.same_stamp) ∙ p.greatest q.top (to q.top q.inside)

has_those : (ss ts : List State) (m n : State) → ((s : State) → Among s ss → Among s ts) → IsMerge ss m → IsMerge ts n → (k : ℕ) → bit_at m.targets k ≡ 1 → bit_at n.targets k ≡ 1
has_those ss ts m n to p q k h = let from = p.targets_from k h in q.targets_to k from.0 (to from.0 from.1) from.2

-- only one state is the join of these: order and number do not count
pub one_merge : (ss ts : List State) (m n : State) → ((s : State) → Among s ss ↔ Among s ts) → IsMerge ss m → IsMerge ts n → m ≡ n
one_merge ss ts m n same p q =
    let alike = tied m n (both_ways m n (not_above ss ts m n (λ s. (same s).1) p q) (not_above ts ss n m (λ s. (same s).0) q p)) in
    let masks : m.targets ≡ n.targets = same_from_bits m.targets n.targets (λ k. bit_same _ _ (bit_at-lt m.targets k) (bit_at-lt n.targets k)
    (has_those ss ts m n (λ s. (same s).0) p q k) (has_those ts ss n m (λ s. (same s).1) q p k)) in
    let values : m.value ≡ n.value = alike.0 in
    let stamps : m.stamp ≡ n.stamp = alike.1 in
    λ i. record { value = values i; stamp = stamps i; targets = masks i }

pub merge_one : (s : State) → IsMerge (s ∷ []) s
merge_one s = record {
  top = s;
  inside = inl refl;
  same_value = refl;
  same_stamp = refl;
  greatest = λ t h. subst (λ (u : State). is_below s u ≡ false) (only t h) (ap is_lt (tied_itself state_total s));
  targets_from = λ k h. (s, inl refl, h);
  targets_to = λ k t h b. subst (λ (u : State). bit_at u.targets k ≡ 1) (sym (only t h)) b;
}
  where
    only : (t : State) → Among t (s ∷ []) → s ≡ t
    only t h = ⊎_elim (λ e. e) (λ none. absurd none) h

-- the later of two: it is one of them, and is below neither
record IsLater (a b l : State) : Type 0 where
  either : (l ≡ a) ⊎ (l ≡ b)
  first : is_gt (state_cmp a l) ≡ false
  second : is_gt (state_cmp b l) ≡ false

not_gt_less : (r : Ordering) → is_lt r ≡ true → is_gt r ≡ false
not_gt_less Less h = refl
not_gt_less Equal h = refl
not_gt_less Greater h = cc

turned : (r s : Ordering) → s ≡ ordering_reverse r → is_lt r ≡ false → is_gt s ≡ false
turned Less s e h = cc
turned Equal s e h = rw e refl
turned Greater s e h = rw e refl

back : (r s : Ordering) → s ≡ ordering_reverse r → is_gt r ≡ false → is_lt s ≡ false
back Less s e h = rw e refl
back Equal s e h = rw e refl
back Greater s e h = cc

is_later : (a b : State) → IsLater a b (later a b)
is_later a b = by_test (is_lt (state_cmp a b)) refl
  where
    itself : (x : State) → is_gt (state_cmp x x) ≡ false
    itself x = ap is_gt (tied_itself state_total x)

    by_test : (t : Bool) → is_lt (state_cmp a b) ≡ t → IsLater a b (cond t b a)
    by_test true e = record { either = inr refl; first = not_gt_less (state_cmp a b) e; second = itself b }
    by_test false e = record { either = inl refl; first = itself a; second = turned (state_cmp a b) (state_cmp b a) (state_total.antisymm b a) e }

bits_or : (x y : ℕ) → x < 2 → y < 2 → max x y ≡ 1 → (x ≡ 1) ⊎ (y ≡ 1)
bits_or x y lx ly h = by (nat_eq x 1) refl
  where
    by : (t : Bool) → nat_eq x 1 ≡ t → (x ≡ 1) ⊎ (y ≡ 1)
    by true e = inl (grind (arith, nat_tests))
    by false e = inr (grind (arith, nat_tests))

or_from : (a b k : ℕ) → bit_at (bit_or a b) k ≡ 1 → (bit_at a k ≡ 1) ⊎ (bit_at b k ≡ 1)
or_from a b k h = bits_or (bit_at a k) (bit_at b k) (bit_at-lt a k) (bit_at-lt b k) (sym (bit_at_or a b k) ∙ h)

or_left : (a b k : ℕ) → bit_at a k ≡ 1 → bit_at (bit_or a b) k ≡ 1
or_left a b k h = bit_at_or a b k ∙ top (bit_at a k) (bit_at b k) (bit_at-lt b k) h
  where
    top : (x y : ℕ) → y < 2 → x ≡ 1 → max x y ≡ 1
    top x y ly e = grind (arith, nat_tests)

or_right : (a b k : ℕ) → bit_at b k ≡ 1 → bit_at (bit_or a b) k ≡ 1
or_right a b k h = bit_at_or a b k ∙ top (bit_at a k) (bit_at b k) (bit_at-lt a k) h
  where
    top : (x y : ℕ) → x < 2 → y ≡ 1 → max x y ≡ 1
    top x y lx e = grind (arith, nat_tests)

merge_by : (ss : List State) (m s l : State) → IsLater m s l → IsMerge ss m → IsMerge (ss ++ s ∷ []) (record { value = l.value; stamp = l.stamp; targets = bit_or m.targets s.targets })
merge_by ss m s l r p = record {
  top = top.0;
  inside = top.1;
  same_value = top.2;
  same_stamp = top.3;
  greatest = λ x h. back (state_cmp x l) (state_cmp l x) (state_total.antisymm l x) (⊎_elim
      (λ old. upto state_total x m l (turned (state_cmp m x) (state_cmp x m) (state_total.antisymm x m) (p.greatest x old)) r.first)
      (λ new. subst (λ (y : State). is_gt (state_cmp y l) ≡ false) new r.second)
      (among_last x ss s h));
  targets_from = λ k h. ⊎_elim
      (λ old. let f = p.targets_from k old in (f.0, among_front f.0 ss (s ∷ []) f.1, f.2))
      (λ new. (s, among_behind s ss (s ∷ []) (inl refl), new))
      (or_from m.targets s.targets k h);
  targets_to = λ k x h b. ⊎_elim
      (λ old. or_left m.targets s.targets k (p.targets_to k x old b))
      (λ new. or_right m.targets s.targets k (subst (λ (y : State). bit_at y.targets k ≡ 1) (sym new) b))
      (among_last x ss s h);
}
  where
    top : (t : State) × Among t (ss ++ s ∷ []) × (l.value ≡ t.value) × (l.stamp ≡ t.stamp)
    top = ⊎_elim
        (λ is_m. (p.top, among_front p.top ss (s ∷ []) p.inside, ap (λ (x : State). x.value) is_m ∙ p.same_value, ap (λ (x : State). x.stamp) is_m ∙ p.same_stamp))
        (λ is_s. (s, among_behind s ss (s ∷ []) (inl refl), ap (λ (x : State). x.value) is_s, ap (λ (x : State). x.stamp) is_s))
        r.either

pub merge_more : (ss : List State) (m s : State) → IsMerge ss m → IsMerge (ss ++ s ∷ []) (joined m s)
merge_more ss m s p = merge_by ss m s (later m s) (is_later m s) p

-- the join of two is that of the set of both, and of three that of the set of three
two : (a b : State) → IsMerge (a ∷ b ∷ []) (joined a b)
two a b = merge_more (a ∷ []) a b (merge_one a)

three : (a b c : State) → IsMerge (a ∷ b ∷ c ∷ []) (joined (joined a b) c)
three a b c = merge_more (a ∷ b ∷ []) (joined a b) c (two a b)

pub commuted : (a b : State) → joined a b ≡ joined b a
commuted a b = one_merge (a ∷ b ∷ []) (b ∷ a ∷ []) _ _ (λ s. (swap a b s, swap b a s)) (two a b) (two b a)
  where
    swap : (a b s : State) → Among s (a ∷ b ∷ []) → Among s (b ∷ a ∷ [])
    swap a b s h = ⊎_elim (λ e. inr (inl e)) (λ t. ⊎_elim (λ e. inl e) (λ none. absurd none) t) h

pub repeated : (a : State) → joined a a ≡ a
repeated a = one_merge (a ∷ a ∷ []) (a ∷ []) _ _ (λ s. (λ h. ⊎_elim (λ e. inl e) (λ t. t) h, λ h. inr h)) (two a a) (merge_one a)

pub associated : (a b c : State) → joined (joined a b) c ≡ joined a (joined b c)
associated a b c = one_merge (a ∷ b ∷ c ∷ []) (b ∷ c ∷ a ∷ []) _ _ (λ s. (turn s, unturn s)) (three a b c) (three b c a) ∙ commuted (joined b c) a
  where
    turn : (s : State) → Among s (a ∷ b ∷ c ∷ []) → Among s (b ∷ c ∷ a ∷ [])
    turn s h = ⊎_elim (λ e. inr (inr (inl e))) (λ t. ⊎_elim (λ e. inl e) (λ u. ⊎_elim (λ e. inr (inl e)) (λ none. absurd none) u) t) h

    unturn : (s : State) → Among s (b ∷ c ∷ a ∷ []) → Among s (a ∷ b ∷ c ∷ [])
    unturn s h = ⊎_elim (λ e. inr (inl e)) (λ t. ⊎_elim (λ e. inr (inr (inl e))) (λ u. ⊎_elim (λ e. inl e) (λ none. absurd none) u) t) h

-- what a list of states comes to
abbrev Comes : List State → Option State → Type 0
Comes states None = states ≡ []
Comes states (Some m) = IsMerge states m

one_more : (states : List State) (held : Option State) (s : State) → Comes states held → IsMerge (states ++ s ∷ []) (join_with held s)
one_more states None s none = subst (λ (ss : List State). IsMerge (ss ++ s ∷ []) s) (sym none) (merge_one s)
one_more states (Some m) s p = merge_more states m s p

split : (front : List State) (s : State) (back : List State) → (front ++ s ∷ []) ++ back ≡ front ++ s ∷ back
split [] s back = refl
split (x ∷ front) s back = ap (λ ys. x ∷ ys) (split front s back)

end : (front : List State) → front ++ [] ≡ front
end [] = refl
end (x ∷ front) = ap (λ ys. x ∷ ys) (end front)

comes_after : (front : List State) (held : Option State) (states : List State) → Comes front held → Comes (front ++ states) (join_after held states)
comes_after front held [] p = subst (λ (ss : List State). Comes ss held) (sym (end front)) p
comes_after front held (s ∷ states) p = subst (λ (ss : List State). Comes ss (join_after (Some (join_with held s)) states)) (split front s states)
    (comes_after (front ++ s ∷ []) (Some (join_with held s)) states (one_more front held s p))

pub join_comes : (states : List State) → Comes states (join_all states)
join_comes states = comes_after [] None states refl

pub join_is_merge : (states : List State) (join : State) → join_all states ≡ Some join → IsMerge states join
join_is_merge states join e = subst (Comes states) e (join_comes states)

-- the same states have one join
pub one_join : (some others : List State) → ((s : State) → Among s some ↔ Among s others) → join_all some ≡ join_all others
one_join some others same = by (join_all some) (join_all others) (join_comes some) (join_comes others)
  where
    by : (a b : Option State) → Comes some a → Comes others b → a ≡ b
    by None None p q = refl
    by None (Some n) p q = absurd (subst (λ (ss : List State). Among q.top ss) p ((same q.top).1 q.inside))
    by (Some m) None p q = absurd (subst (λ (ss : List State). Among p.top ss) q ((same p.top).0 p.inside))
    by (Some m) (Some n) p q = ap Some (one_merge some others m n same p q)

-- Gone is above Here, whatever the stamps
pub gone_stays : (user : List ℕ) (id : Id) (a b : State) → IsOfKind (Message user id) a.value → IsOfKind (Message user id) b.value → a.value ≡ Gone → (joined a b).value ≡ Gone
gone_stays user id a b ka kb gone = by b.value refl kb
  where
    by : (v : Value) → b.value ≡ v → IsOfKind (Message user id) v → (joined a b).value ≡ Gone
    by Here e k = ap (λ (t : Bool). (cond t b a).value) (above a.value b.value a.stamp b.stamp gone e) ∙ gone
      where
        above : (v w : Value) (s t : Stamp) → v ≡ Gone → w ≡ Here → is_below (record { value = v; stamp = s; targets = a.targets }) (record { value = w; stamp = t; targets = b.targets }) ≡ false
        above v w s t p q = ap (λ x. is_below (record { value = x; stamp = s; targets = a.targets }) (record { value = w; stamp = t; targets = b.targets })) p
            ∙ ap (λ x. is_below (record { value = Gone; stamp = s; targets = a.targets }) (record { value = x; stamp = t; targets = b.targets })) q
    by Gone e k = either (is_below a b)
      where
        either : (t : Bool) → (cond t b a).value ≡ Gone
        either true = e
        either false = gone
    by (Secret octets) e k = absurd k

-- what a disk says is the join of what its records have
says_after : (key : Key) (held : Option State) (records : List Record) → held_after key held records ≡ join_after held (states_in key records)
says_after key held [] = refl
says_after key held (Stated other state ∷ records) = by (says_after key (Some (join_with held state)) records) (says_after key held records) (is_same_key other key)
  where
    by : held_after key (Some (join_with held state)) records ≡ join_after (Some (join_with held state)) (states_in key records) → held_after key held records ≡ join_after held (states_in key records)
        → (t : Bool) → held_after key (cond t (Some (join_with held state)) held) records ≡ join_after held ((cond t (state ∷ []) []) ++ states_in key records)
    by joins stays true = joins
    by joins stays false = stays
says_after key held (Boot boot ∷ records) = says_after key held records
says_after key held (Promise epoch ∷ records) = says_after key held records
says_after key held (Octets id octets ∷ records) = says_after key held records
says_after key held (Retired other state ∷ records) = says_after key held records

pub says_join : (key : Key) (records : List Record) → said key records ≡ join_all (states_in key records)
says_join key records = says_after key None records
