-- How many nodes a set has, and how many a delivery or a deletion asks.
use Rattle.std.proofs.Common.{◌≡◌, ◌≢◌, inl, inr, ⊎_elim, ◌<◌, ◌≤◌, ◌+◌, ◌-◌, ℕ, zero, suc, Bool, true, false, cond, not, List, [], ◌∷◌, ◌++◌, length, refl, sym, ap, ◌∙◌, subst, arith, true≢false, nat_eq}
use Rattle.std.specs.Prelude.{take, drop, nat_lt}
use Rattle.std.specs.Int.{bit_at}
use Rattle.std.specs.List.{filter}
use Rattle.std.proofs.lemmas.Bool.{and_parts, cases_eq}
use Rattle.std.proofs.lemmas.Bool.Decides.{nat_tests}
use Rattle.object_model.specs.Lists.{Among}
use Rattle.object_model.specs.Sets.{has, with_node, one_node, count_below, count_in, nodes_in}
use Rattle.object_model.proofs.Lists.{among_either}
use Rattle.object_model.proofs.SetLaws.{has_left, has_right, has_with, one_has, has_none}
use Rattle.cluster_model.specs.Targets.{set_of, rotated, position_of, deliver_targets, listed_members, strike_asks}
use Rattle.cluster_model.proofs.Aims.{among_set, among_take, among_drop, among_filter, among_turned}

-- a set within another has no more nodes
pub count_le : (a b : ℕ) → ((n : ℕ) → has a n ≡ true → has b n ≡ true) → (k : ℕ) → count_below a k ≤ count_below b k
unfolding count_below
count_le a b within zero = omega arith
count_le a b within (suc k) = by (count_le a b within k) (has a (suc k)) (has b (suc k)) refl refl
  where
    by : count_below a k ≤ count_below b k → (x y : Bool) → has a (suc k) ≡ x → has b (suc k) ≡ y → count_below a k + cond x 1 0 ≤ count_below b k + cond y 1 0
    by less true true p q = omega (arith, less)
    by less true false p q = absurd (true≢false (sym (within (suc k) p) ∙ q))
    by less false true p q = omega (arith, less)
    by less false false p q = omega (arith, less)

with_other : (mask m n : ℕ) → n ≢ m → has (with_node mask m) n ≡ has mask n
with_other mask m n apart = by (has mask n) (has (with_node mask m) n) refl refl
  where
    by : (x y : Bool) → has mask n ≡ x → has (with_node mask m) n ≡ y → y ≡ x
    by true true p q = refl
    by true false p q = absurd (true≢false (sym (has_left mask (one_node m) n p) ∙ q))
    by false true p q = ⊎_elim (λ old. absurd (true≢false (sym old ∙ p))) (λ is. absurd (apart is)) (has_with mask m n q)
    by false false p q = refl

never : (j : ℕ) → nat_lt j 0 ≡ false
never j = grind (arith, nat_tests)

base : (b : Bool) → b ≡ false → 0 ≡ 0 + cond b 1 0
base true e = absurd (true≢false e)
base false e = omega arith

zero_first : (n : ℕ) → n ≡ 0 + n
zero_first n = omega arith

suc_first : (a b c : ℕ) → a ≡ b + c → suc a ≡ suc b + c
suc_first a b c e = omega (arith, e)

suc_sum : (a b c : ℕ) → a + b ≡ c → suc a + b ≡ suc c
suc_sum a b c e = omega (arith, e)

-- one node more
one_count : (mask j : ℕ) → j < 64 → has mask (suc j) ≡ false → (k : ℕ) → count_below (with_node mask (suc j)) k ≡ count_below mask k + cond (nat_lt j k) 1 0
unfolding count_below
one_count mask j small new zero = base (nat_lt j 0) (never j)
one_count mask j small new (suc k) = ⊎_elim
    (λ is. at (one_count mask j small new k) is)
    (λ apart. off (one_count mask j small new k) (λ s. apart (back s)))
    (cases_eq k j)
  where
    back : suc k ≡ suc j → k ≡ j
    back s = omega (arith, s)

    at : count_below (with_node mask (suc j)) k ≡ count_below mask k + cond (nat_lt j k) 1 0 → k ≡ j → count_below (with_node mask (suc j)) k + cond (has (with_node mask (suc j)) (suc k)) 1 0 ≡ (count_below mask k + cond (has mask (suc k)) 1 0) + cond (nat_lt j (suc k)) 1 0
    at rest is =
        let now : has (with_node mask (suc j)) (suc k) ≡ true = subst (λ n. has (with_node mask (suc j)) (suc n) ≡ true) (sym is) (has_right mask (one_node (suc j)) (suc j) (one_has j small)) in
        let was : has mask (suc k) ≡ false = subst (λ n. has mask (suc n) ≡ false) (sym is) new in
        let before : nat_lt j k ≡ false = none is in
        let after : nat_lt j (suc k) ≡ true = some is in
        joined (count_below (with_node mask (suc j)) k) (count_below mask k) (has (with_node mask (suc j)) (suc k)) (has mask (suc k)) (nat_lt j k) (nat_lt j (suc k)) rest now was before after
      where
        none : k ≡ j → nat_lt j k ≡ false
        none e = grind (arith, nat_tests)

        some : k ≡ j → nat_lt j (suc k) ≡ true
        some e = grind (arith, nat_tests)

        joined : (a b : ℕ) (x y u v : Bool) → a ≡ b + cond u 1 0 → x ≡ true → y ≡ false → u ≡ false → v ≡ true → a + cond x 1 0 ≡ (b + cond y 1 0) + cond v 1 0
        joined a b true false false true e p q r s = omega (arith, e)
        joined a b false y u v e p q r s = absurd (true≢false (sym p))
        joined a b true true u v e p q r s = absurd (true≢false q)
        joined a b true false true v e p q r s = absurd (true≢false r)
        joined a b true false false false e p q r s = absurd (true≢false (sym s))

    off : count_below (with_node mask (suc j)) k ≡ count_below mask k + cond (nat_lt j k) 1 0 → (suc k ≡ suc j → ⊥) → count_below (with_node mask (suc j)) k + cond (has (with_node mask (suc j)) (suc k)) 1 0 ≡ (count_below mask k + cond (has mask (suc k)) 1 0) + cond (nat_lt j (suc k)) 1 0
    off rest apart = joined (count_below (with_node mask (suc j)) k) (count_below mask k) (has (with_node mask (suc j)) (suc k)) (has mask (suc k)) (nat_lt j k) (nat_lt j (suc k))
        rest (with_other mask (suc j) (suc k) apart) (same (λ e. apart (ap suc e)))
      where
        same : (k ≡ j → ⊥) → nat_lt j k ≡ nat_lt j (suc k)
        same ne = grind (arith, nat_tests)

        joined : (a b : ℕ) (x y u v : Bool) → a ≡ b + cond u 1 0 → x ≡ y → u ≡ v → a + cond x 1 0 ≡ (b + cond y 1 0) + cond v 1 0
        joined a b x y u v e p q = rw (p, sym q) (shuffle a b (cond y 1 0) (cond u 1 0) e)
          where
            shuffle : (a b c d : ℕ) → a ≡ b + d → a + c ≡ (b + c) + d
            shuffle a b c d f = omega (arith, f)

-- lists in which nothing is there twice
abbrev Distinct : List ℕ → Type 0
Distinct [] = Unit {0}
Distinct (x ∷ xs) = (Among x xs → ⊥) × Distinct xs

-- numbers of nodes
abbrev AreNodes : List ℕ → Type 0
AreNodes xs = (x : ℕ) → Among x xs → (j : ℕ) × (x ≡ suc j) × (j < 64)

none_counted : (k : ℕ) → count_below 0 k ≡ 0
unfolding count_below
none_counted zero = refl
none_counted (suc k) = ap (λ b. count_below 0 k + cond b 1 0) (has_none (suc k)) ∙ zero_more (count_below 0 k) ∙ none_counted k
  where
    zero_more : (n : ℕ) → n + 0 ≡ n
    zero_more n = omega arith

-- a set of distinct nodes has as many as the list
count_set : (xs : List ℕ) → Distinct xs → AreNodes xs → count_in (set_of xs) ≡ length xs
count_set [] d n = none_counted 64
count_set (x ∷ xs) d n =
    let node = n x (inl refl) in
    let rest = count_set xs d.1 (λ y m. n y (inr m)) in
    added (set_of xs) x node.0 node.1 node.2 (not_there (has (set_of xs) x) refl) (length xs) rest
  where
    not_there : (b : Bool) → has (set_of xs) x ≡ b → b ≡ false
    not_there true e = absurd (d.0 (among_set xs x e))
    not_there false e = refl

    added : (mask m j : ℕ) → m ≡ suc j → j < 64 → has mask m ≡ false → (many : ℕ) → count_in mask ≡ many → count_in (with_node mask m) ≡ suc many
    added mask m j is small new many e = subst (λ k. count_in (with_node mask k) ≡ suc many) (sym is)
        (one_count mask j small (subst (λ k. has mask k ≡ false) is new) 64 ∙ counted (count_in mask) (nat_lt j 64) (lt_true small))
      where
        lt_true : j < 64 → nat_lt j 64 ≡ true
        lt_true lt = grind (arith, nat_tests)

        counted : (c : ℕ) (b : Bool) → b ≡ true → count_in mask + cond b 1 0 ≡ suc many
        counted c true p = omega (arith, e)
        counted c false p = absurd (true≢false (sym p))

distinct_both : (xs ys : List ℕ) → Distinct xs → Distinct ys → ((x : ℕ) → Among x xs → Among x ys → ⊥) → Distinct (xs ++ ys)
distinct_both [] ys a b apart = b
distinct_both (x ∷ xs) ys a b apart = (λ m. ⊎_elim (λ f. a.0 f) (λ k. apart x (inl refl) k) (among_either x xs ys m), distinct_both xs ys a.1 b (λ y p q. apart y (inr p) q))

distinct_take : (k : ℕ) (xs : List ℕ) → Distinct xs → Distinct (take k xs)
distinct_take zero xs d = tt
distinct_take (suc k) [] d = tt
distinct_take (suc k) (x ∷ xs) d = (λ m. d.0 (among_take k xs x m), distinct_take k xs d.1)

distinct_drop : (k : ℕ) (xs : List ℕ) → Distinct xs → Distinct (drop k xs)
distinct_drop zero xs d = d
distinct_drop (suc k) [] d = tt
distinct_drop (suc k) (x ∷ xs) d = distinct_drop k xs d.1

parts_apart : (k : ℕ) (xs : List ℕ) → Distinct xs → (x : ℕ) → Among x (drop k xs) → Among x (take k xs) → ⊥
parts_apart zero xs d x p q = q
parts_apart (suc k) [] d x p q = q
parts_apart (suc k) (y ∷ xs) d x p q = ⊎_elim (λ is. d.0 (subst (λ z. Among z xs) (sym is) (among_drop k xs x p))) (λ more. parts_apart k xs d.1 x p more) q

distinct_turned : (k : ℕ) (xs : List ℕ) → Distinct xs → Distinct (rotated k xs)
distinct_turned k xs d = distinct_both (drop k xs) (take k xs) (distinct_drop k xs d) (distinct_take k xs d) (parts_apart k xs d)

distinct_filter : (p : ℕ → Bool) (xs : List ℕ) → Distinct xs → Distinct (filter p xs)
distinct_filter p [] d = tt
distinct_filter p (x ∷ xs) d = by (distinct_filter p xs d.1) (p x)
  where
    by : Distinct (filter p xs) → (b : Bool) → Distinct (cond b (x ∷ filter p xs) (filter p xs))
    by rest true = (λ m. d.0 (among_filter p xs x m), rest)
    by rest false = rest

filter_is : (p : ℕ → Bool) (xs : List ℕ) (x : ℕ) → Among x (filter p xs) → p x ≡ true
filter_is p [] x m = absurd m
filter_is p (y ∷ xs) x m = by (λ t. filter_is p xs x t) (p y) refl m
  where
    by : (Among x (filter p xs) → p x ≡ true) → (b : Bool) → p y ≡ b → Among x (cond b (y ∷ filter p xs) (filter p xs)) → p x ≡ true
    by rest true e t = ⊎_elim (λ is. subst (λ z. p z ≡ true) is e) (λ more. rest more) t
    by rest false e t = rest t

length_both : (xs ys : List ℕ) → length (xs ++ ys) ≡ length xs + length ys
length_both [] ys = zero_first (length ys)
length_both (x ∷ xs) ys = suc_first (length (xs ++ ys)) (length xs) (length ys) (length_both xs ys)

long_take : (f k : ℕ) (xs : List ℕ) → f ≤ k → f ≤ length xs → f ≤ length (take k xs)
long_take f zero xs a b = a
long_take f (suc k) [] a b = b
long_take zero (suc k) (x ∷ xs) a b = omega arith
long_take (suc f) (suc k) (x ∷ xs) a b = let r = long_take f k xs (omega (arith, a)) (less b) in omega (arith, r)
  where
    less : suc f ≤ suc (length xs) → f ≤ length xs
    less le = omega (arith, le)

length_turned : (k : ℕ) (xs : List ℕ) → length (rotated k xs) ≡ length xs
length_turned k xs = length_both (drop k xs) (take k xs) ∙ parts k xs
  where
    parts : (k : ℕ) (xs : List ℕ) → length (drop k xs) + length (take k xs) ≡ length xs
    parts zero xs = zero_more (length xs)
      where
        zero_more : (n : ℕ) → n + 0 ≡ n
        zero_more n = omega arith
    parts (suc k) [] = refl
    parts (suc k) (x ∷ xs) = shifted (length (drop k xs)) (length (take k xs)) (length xs) (parts k xs)
      where
        shifted : (a b c : ℕ) → a + b ≡ c → a + suc b ≡ suc c
        shifted a b c e = omega (arith, e)

-- a test and its opposite part a list
parted : (p : ℕ → Bool) (xs : List ℕ) → length (filter p xs) + length (filter (λ x. not (p x)) xs) ≡ length xs
parted p [] = zero_sum
  where
    zero_sum : 0 + 0 ≡ 0
    zero_sum = omega arith
parted p (x ∷ xs) = by (parted p xs) (p x)
  where
    by : length (filter p xs) + length (filter (λ x. not (p x)) xs) ≡ length xs → (b : Bool)
        → length (cond b (x ∷ filter p xs) (filter p xs)) + length (cond (not b) (x ∷ filter (λ x. not (p x)) xs) (filter (λ x. not (p x)) xs)) ≡ suc (length xs)
    by rest true = suc_sum (length (filter p xs)) (length (filter (λ x. not (p x)) xs)) (length xs) rest
    by rest false = shifted (length (filter p xs)) (length (filter (λ x. not (p x)) xs)) (length xs) rest
      where
        shifted : (a b c : ℕ) → a + b ≡ c → a + suc b ≡ suc c
        shifted a b c e = omega (arith, e)

filter_both : (p : ℕ → Bool) (xs ys : List ℕ) → length (filter p (xs ++ ys)) ≡ length (filter p xs) + length (filter p ys)
filter_both p [] ys = zero_first (length (filter p ys))
filter_both p (x ∷ xs) ys = by (filter_both p xs ys) (p x)
  where
    by : length (filter p (xs ++ ys)) ≡ length (filter p xs) + length (filter p ys) → (b : Bool)
        → length (cond b (x ∷ filter p (xs ++ ys)) (filter p (xs ++ ys))) ≡ length (cond b (x ∷ filter p xs) (filter p xs)) + length (filter p ys)
    by rest true = suc_first (length (filter p (xs ++ ys))) (length (filter p xs)) (length (filter p ys)) rest
    by rest false = rest

filter_turned : (p : ℕ → Bool) (k : ℕ) (xs : List ℕ) → length (filter p (rotated k xs)) ≡ length (filter p xs)
filter_turned p k xs = filter_both p (drop k xs) (take k xs) ∙ parts k xs
  where
    zero_more : (n : ℕ) → n + 0 ≡ n
    zero_more n = omega arith

    parts : (k : ℕ) (xs : List ℕ) → length (filter p (drop k xs)) + length (filter p (take k xs)) ≡ length (filter p xs)
    parts zero xs = zero_more (length (filter p xs))
    parts (suc k) [] = refl
    parts (suc k) (x ∷ xs) = by (parts k xs) (p x)
      where
        by : length (filter p (drop k xs)) + length (filter p (take k xs)) ≡ length (filter p xs) → (b : Bool)
            → length (filter p (drop k xs)) + length (cond b (x ∷ filter p (take k xs)) (filter p (take k xs))) ≡ length (cond b (x ∷ filter p xs) (filter p xs))
        by rest true = shifted (length (filter p (drop k xs))) (length (filter p (take k xs))) (length (filter p xs)) rest
          where
            shifted : (a b c : ℕ) → a + b ≡ c → a + suc b ≡ suc c
            shifted a b c e = omega (arith, e)
        by rest false = rest

-- the nodes of a set are distinct, and nodes
in_set : (mask n m : ℕ) → Among m (nodes_in mask n) → (has mask m ≡ true) × (m ≤ n)
in_set mask zero m inside = absurd inside
in_set mask (suc k) m inside = ⊎_elim
    (λ front. let r = in_set mask k m front in (r.0, omega (arith, r.1)))
    (λ last. by (has mask (suc k)) refl last)
    (among_either m (nodes_in mask k) _ inside)
  where
    by : (b : Bool) → has mask (suc k) ≡ b → Among m (cond b (suc k ∷ []) []) → (has mask m ≡ true) × (m ≤ suc k)
    by true e t = ⊎_elim (λ is. (subst (λ j. has mask j ≡ true) is e, omega (arith, is))) (λ none. absurd none) t
    by false e t = absurd t

are_nodes : (mask n : ℕ) → AreNodes (nodes_in mask n)
are_nodes mask n x m = of x (in_set mask n x m).0
  where
    of : (x : ℕ) → has mask x ≡ true → (j : ℕ) × (x ≡ suc j) × (j < 64)
    of zero h = absurd (true≢false (sym h))
    of (suc j) h = (j, refl, small (and_parts (nat_lt j 64) (nat_eq (bit_at mask j) 1) h).0)
      where
        small : nat_lt j 64 ≡ true → j < 64
        small e = grind (arith, nat_tests)

nodes_distinct : (mask n : ℕ) → Distinct (nodes_in mask n)
nodes_distinct mask zero = tt
nodes_distinct mask (suc k) = by (nodes_distinct mask k) (has mask (suc k))
  where
    by : Distinct (nodes_in mask k) → (b : Bool) → Distinct (nodes_in mask k ++ cond b (suc k ∷ []) [])
    by rest true = distinct_both (nodes_in mask k) (suc k ∷ []) rest (λ m. m, tt)
        (λ x p q. ⊎_elim (λ is. let le = (in_set mask k x p).1 in omega (arith, le, is)) (λ none. absurd none) q)
    by rest false = distinct_both (nodes_in mask k) [] rest tt (λ x p q. q)

module _ (confirm own mask nodes listed : ℕ) (many : confirm ≤ length (nodes_in mask nodes)) where
  abbrev members : List ℕ
  members = nodes_in mask nodes

  abbrev some : List ℕ
  some = listed_members listed members

  abbrev others : List ℕ
  others = filter (λ m. not (has listed m)) (rotated (position_of own members) members)

  all_distinct : Distinct (some ++ take (confirm - length some) others)
  all_distinct = distinct_both some (take (confirm - length some) others)
      (distinct_filter (λ m. has listed m) members (nodes_distinct mask nodes))
      (distinct_take (confirm - length some) others (distinct_filter (λ m. not (has listed m)) (rotated (position_of own members) members) (distinct_turned (position_of own members) members (nodes_distinct mask nodes))))
      (λ x p q. clash (has listed x) (filter_is (λ m. has listed m) members x p)
      (filter_is (λ m. not (has listed m)) (rotated (position_of own members) members) x (among_take (confirm - length some) others x q)))
    where
      clash : (b : Bool) → b ≡ true → not b ≡ true → ⊥
      clash true p q = absurd (true≢false (sym q))
      clash false p q = absurd (true≢false (sym p))

  all_nodes_too : AreNodes (some ++ take (confirm - length some) others)
  all_nodes_too x m = ⊎_elim
      (λ front. are_nodes mask nodes x (among_filter (λ n. has listed n) members x front))
      (λ behind. are_nodes mask nodes x (among_turned (position_of own members) members x
      (among_filter (λ n. not (has listed n)) (rotated (position_of own members) members) x (among_take (confirm - length some) others x behind))))
      (among_either x some (take (confirm - length some) others) m)

  strikes_enough : confirm ≤ count_in (strike_asks confirm own listed (nodes_in mask nodes))
  strikes_enough = subst (λ c. confirm ≤ c) (sym (count_set (some ++ take (confirm - length some) others) all_distinct all_nodes_too ∙ length_both some (take (confirm - length some) others)))
      (reached confirm (length some) (length others) (length members) (length (take (confirm - length some) others))
      (ap (λ n. length some + n) (filter_turned (λ m. not (has listed m)) (position_of own members) members) ∙ parted (λ m. has listed m) members)
      many
      (λ f a b. long_take f (confirm - length some) others a b))
    where
      reached : (f a b c t : ℕ) → a + b ≡ c → f ≤ c → ((g : ℕ) → g ≤ f - a → g ≤ b → g ≤ t) → f ≤ a + t
      reached f a b c t e le long = let r = long (f - a) (omega arith) (omega (arith, e, le)) in omega (arith, r)

pub targets_enough : (confirm copies own mask nodes : ℕ) → confirm ≤ copies → confirm ≤ length (nodes_in mask nodes)
    → ((seq : ℕ) → confirm ≤ count_in (deliver_targets copies own seq (nodes_in mask nodes)))
    × ((listed : ℕ) → confirm ≤ count_in (strike_asks confirm own listed (nodes_in mask nodes)))
targets_enough confirm copies own mask nodes le many = (λ seq. delivers _, λ listed. strikes_enough confirm own mask nodes listed many)
  where
    delivers : (at : ℕ) → confirm ≤ count_in (set_of (take copies (rotated at (nodes_in mask nodes))))
    delivers at = subst (λ c. confirm ≤ c)
        (sym (count_set (take copies (rotated at (nodes_in mask nodes))) (distinct_take copies (rotated at (nodes_in mask nodes)) (distinct_turned at (nodes_in mask nodes) (nodes_distinct mask nodes)))
        (λ x m. are_nodes mask nodes x (among_turned at (nodes_in mask nodes) x (among_take copies (rotated at (nodes_in mask nodes)) x m)))))
        (long_take confirm copies (rotated at (nodes_in mask nodes)) le (subst (λ c. confirm ≤ c) (sym (length_turned at (nodes_in mask nodes))) many))
