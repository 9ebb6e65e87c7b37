-- Which keys are pushed, and what their letters count for.
use Rattle.std.proofs.Common.{◌≡◌, ◌<◌, ◌≤◌, ◌+◌, ◌-◌, ℕ, zero, suc, nat_lt, nat_le, nat_eq, List, [], ◌∷◌, ◌++◌, length, map, take, flat_map, filter, Bool, true, false, not, ◌&&◌, ◌||◌, cond, T, Option, Some, None, refl, sym, ap, ◌∙◌, arith, lt-ltb, le-ltb, le-leb, leb-true, leb-false, length-append}
use Rattle.std.specs.List.{list_any}
use Rattle.std.proofs.lemmas.Bool.{lt-leb}
use Rattle.std.specs.FinMap as fin
use Rattle.std.specs.FinMap.{get-entries, entries_sorted}
use Rattle.std.specs.FinMap.Entries.{find, is_sorted, below_all}
use Rattle.std.specs.Ordering.{eq_by_cmp, is_eq, is_lt, ordering_reverse}
use Rattle.std.specs.Cmp.{tied_itself, Equal-is}
use Rattle.std.proofs.lemmas.List.{length-replicate}
use Rattle.std.specs.declared.cmp.Ordering.TheVariants.{Less, Equal, Greater}
use Rattle.mail_model.specs.Identity.{Key}
use Rattle.mail_model.specs.Record.{Record}
use Rattle.object_model.specs.Keys.{key_cmp}
use Rattle.object_model.specs.Sets.{has}
use Rattle.object_model.specs.UpdateLog.{Logged, Log, owes, due, all_due}
use Rattle.object_model.specs.Letters.{Body, Letter}
use Rattle.object_model.specs.Letters.Body.{Push}
use Rattle.object_model.proofs.MapLaws.{key_total}
use Rattle.cluster_model.specs.Cluster as plain
use Rattle.cluster_model.specs.Cluster.{epoch_of, members_of}
use Rattle.cluster_model.specs.Rules.{push_of, pushed_octets}
use Rattle.cluster_model.specs.Room.{Flight, octets_of, octets_of_all, message_octets, octets_flying, fits, fitting, due_to, keys_pushed}
use Rattle.node_core.specs.Pushing.{first_within, keys_within, pushed_by, untold_body, untold}

-- each of these entries is found under its key
abbrev pub EachFound : List (Key × Logged) → List (Key × Logged) → Type 0
EachFound all [] = Unit {0}
EachFound all (e ∷ es) = (find key_cmp e.0 all ≡ Some e.1) × EachFound all es

both_true : (a b : Bool) → T (a && b) → T a × T b
both_true true b p = (tt, p)
both_true false b p = absurd p

untied : (x y : Key) → T (is_lt (key_cmp x y)) → eq_by_cmp key_cmp y x ≡ false
untied x y below = by (key_cmp x y) refl below
  where
    by : (o : _) → key_cmp x y ≡ o → T (is_lt o) → eq_by_cmp key_cmp y x ≡ false
    by Less is lt = ap is_eq (key_total.antisymm y x ∙ ap ordering_reverse is)
    by Equal is lt = absurd lt
    by Greater is lt = absurd lt

later_found : (e : Key × Logged) (all es : List (Key × Logged)) → T (below_all key_cmp e.0 es) → EachFound all es → EachFound (e ∷ all) es
later_found e all [] below each = tt
later_found e all (f ∷ es) below each =
    let parts = both_true (is_lt (key_cmp e.0 f.0)) (below_all key_cmp e.0 es) below in
    (ap (λ (b : Bool). cond b (Some e.1) (find key_cmp f.0 all)) (untied e.0 f.0 parts.0) ∙ each.0, later_found e all es parts.1 each.1)

pub each_found : (es : List (Key × Logged)) → T (is_sorted key_cmp es) → EachFound es es
each_found [] sorted = tt
each_found (e ∷ es) sorted =
    let parts = both_true (below_all key_cmp e.0 es) (is_sorted key_cmp es) sorted in
    (ap (λ (b : Bool). cond b (Some e.1) (find key_cmp e.0 es)) ((Equal-is (key_cmp e.0 e.0)).1 (tied_itself key_total e.0)), later_found e es es parts.0 (each_found es parts.1))

-- the key has an entry in which the node remains
record IsOwed (log : Log) (to : ℕ) (key : Key) : Type 0 where
  entry : Logged
  stands : fin.get log key ≡ Some entry
  owed : has entry.remaining to ≡ true

abbrev AreOwed : Log → ℕ → List Key → Type 0
AreOwed log to [] = Unit {0}
AreOwed log to (key ∷ keys) = IsOwed log to key × AreOwed log to keys

module _ (log : Log) (to : ℕ) where
  remains : Key × Logged → Bool
  remains entry = has entry.1.remaining to

  owed_among : (es : List (Key × Logged)) → EachFound (fin.entries log) es → AreOwed log to (map (λ entry. entry.0) (filter (λ entry. has entry.1.remaining to) es))
  owed_among [] each = tt
  owed_among (e ∷ es) each = by (has e.1.remaining to) refl (owed_among es each.1)
    where
      by : (b : Bool) → has e.1.remaining to ≡ b → AreOwed log to (map (λ entry. entry.0) (filter (λ entry. has entry.1.remaining to) es))
          → AreOwed log to (map (λ entry. entry.0) (cond b (e ∷ filter (λ entry. has entry.1.remaining to) es) (filter (λ entry. has entry.1.remaining to) es)))
      by true is rest = (record { entry = e.1; stands = get-entries log e.0 ∙ each.0; owed = is }, rest)
      by false is rest = rest

  owed_taken : (n : ℕ) (keys : List Key) → AreOwed log to keys → AreOwed log to (take n keys)
  owed_taken zero keys owed = tt
  owed_taken (suc n) [] owed = tt
  owed_taken (suc n) (key ∷ keys) owed = (owed.0, owed_taken n keys owed.1)

  due_owed : (most : ℕ) → AreOwed log to (due log to most)
  due_owed most = owed_taken most (all_due log to) (owed_among (fin.entries log) (each_found (fin.entries log) (entries_sorted log)))

  owed_first : (f : Key → List Letter) (most room : ℕ) (keys : List Key) → AreOwed log to keys → AreOwed log to (first_within f most room keys)
  owed_first f most room [] owed = tt
  owed_first f zero room (key ∷ keys) owed = tt
  owed_first f (suc most) room (key ∷ keys) owed = by (nat_le (octets_of_all (f key)) room) (owed_first f most (room - octets_of_all (f key)) keys owed.1)
    where
      by : (b : Bool) → AreOwed log to (first_within f most (room - octets_of_all (f key)) keys) → AreOwed log to (cond b (key ∷ first_within f most (room - octets_of_all (f key)) keys) [])
      by true rest = (owed.0, rest)
      by false rest = tt

  -- whether anything is due
  any_due : (es : List (Key × Logged)) → list_any (λ entry. has entry.1.remaining to) es ≡ nat_lt 0 (length (take 64 (map (λ entry. entry.0) (filter (λ entry. has entry.1.remaining to) es))))
  any_due [] = refl
  any_due (e ∷ es) = by (has e.1.remaining to) (any_due es)
    where
      by : (b : Bool) → list_any (λ entry. has entry.1.remaining to) es ≡ nat_lt 0 (length (take 64 (map (λ entry. entry.0) (filter (λ entry. has entry.1.remaining to) es))))
          → (b || list_any (λ entry. has entry.1.remaining to) es)
          ≡ nat_lt 0 (length (take 64 (map (λ entry. entry.0) (cond b (e ∷ filter (λ entry. has entry.1.remaining to) es) (filter (λ entry. has entry.1.remaining to) es)))))
      by true rest = some (length (take 63 (map (λ entry. entry.0) (filter (λ entry. has entry.1.remaining to) es))))
        where
          some : (n : ℕ) → true ≡ nat_lt 0 (suc n)
          some n = sym (lt-ltb 0 (suc n) (omega arith))
      by false rest = rest

  pub owes_due : owes log to ≡ nat_lt 0 (length (due log to 64))
  owes_due = any_due (fin.entries log)

-- something is due to another member exactly where the log owes it
pub is_due_is : (own to : ℕ) (node : plain.Node) → ((has (members_of node) to && not (nat_eq to own)) && owes node.log to) ≡ nat_lt 0 (length (due_to own to node))
is_due_is own to node = by (has (members_of node) to && not (nat_eq to own))
  where
    by : (b : Bool) → (b && owes node.log to) ≡ nat_lt 0 (length (cond b (due node.log to 64) []))
    by true = owes_due node.log to
    by false = refl

due_to_owed : (own to : ℕ) (node : plain.Node) → AreOwed node.log to (due_to own to node)
due_to_owed own to node = by (has (members_of node) to && not (nat_eq to own))
  where
    by : (b : Bool) → AreOwed node.log to (cond b (due node.log to 64) [])
    by true = due_owed node.log to 64
    by false = tt

-- the letter of such a key
module _ (own to : ℕ) (node : plain.Node) (records : List Record) where
  abbrev letter_of : Key → List Letter
  letter_of key = push_of own to (epoch_of node) records key (fin.get node.log key)

  one_letter : (key : Key) → IsOwed node.log to key → length (letter_of key) ≡ 1
  one_letter key owed =
      ap (λ (e : Option Logged). length (push_of own to (epoch_of node) records key e)) owed.stands
      ∙ ap (λ (b : Bool). length {A = Letter} (cond b (record { from = own; to = to; epoch = epoch_of node; ticket = None; body = Push key owed.entry.state (pushed_octets key owed.entry.state.value records) } ∷ []) [])) owed.owed

  some_octets : (letters : List Letter) → length letters ≡ 1 → 0 < octets_of_all letters
  some_octets [] one = absurd (cc one)
  some_octets (letter ∷ letters) one = omega arith

  as_many : (keys : List Key) → AreOwed node.log to keys → length (flat_map letter_of keys) ≡ length keys
  as_many [] owed = refl
  as_many (key ∷ keys) owed = omega (arith, length-append (letter_of key) (flat_map letter_of keys), one_letter key owed.0, as_many keys owed.1)

  -- as many letters as there are keys
  pub counted : (most room : ℕ) → length (pushed_by own to most room node records) ≡ length (keys_within most room own to node records)
  counted most room = as_many (keys_within most room own to node records) (owed_first node.log to letter_of most room (due_to own to node) (due_to_owed own to node))

  -- the machine's keys are those that find room here
  fits_here : (letters octets size : ℕ) → letters < 65536 → 0 < size → fits letters octets size ≡ nat_le size (536870912 - octets)
  fits_here letters octets size room some =
      ap (λ (b : Bool). b && nat_le (octets + size) 536870912) (lt-ltb letters 65536 room)
      ∙ by (nat_le (octets + size) 536870912) refl
    where
      by : (b : Bool) → nat_le (octets + size) 536870912 ≡ b → b ≡ nat_le size (536870912 - octets)
      by true is = sym (le-leb size (536870912 - octets) (omega (arith, leb-true (octets + size) 536870912 is)))
      by false is = sym (lt-leb size (536870912 - octets) (omega (arith, some, leb-false (octets + size) 536870912 is)))

  none_fits : (f : Key → List Letter) (letters octets : ℕ) (keys : List Key) → 65536 ≤ letters → fitting f letters octets keys ≡ []
  none_fits f letters octets [] full = refl
  none_fits f letters octets (key ∷ keys) full =
      ap (λ (b : Bool). cond (b && nat_le (octets + octets_of_all (f key)) 536870912) (key ∷ fitting f (letters + 1) (octets + octets_of_all (f key)) keys) []) (le-ltb letters 65536 full)

  first_fitting : (most letters octets : ℕ) (keys : List Key) → most ≡ 65536 - letters → AreOwed node.log to keys → first_within letter_of most (536870912 - octets) keys ≡ fitting letter_of letters octets keys
  first_fitting most letters octets [] is owed = refl
  first_fitting zero letters octets (key ∷ keys) is owed = sym (none_fits letter_of letters octets (key ∷ keys) (omega (arith, is)))
  first_fitting (suc most) letters octets (key ∷ keys) is owed =
      let size = octets_of_all (letter_of key) in
      ap (λ (l : List Key). cond (nat_le size (536870912 - octets)) (key ∷ l) [])
      (ap (λ (room : ℕ). first_within letter_of most room keys) (less octets size)
      ∙ first_fitting most (letters + 1) (octets + size) keys (omega (arith, is)) owed.1)
      ∙ ap (λ (b : Bool). cond b (key ∷ fitting letter_of (letters + 1) (octets + size) keys) [])
      (sym (fits_here letters octets size (omega (arith, is)) (some_octets (letter_of key) (one_letter key owed.0))))
    where
      less : (a b : ℕ) → (536870912 - a) - b ≡ 536870912 - (a + b)
      less a b = omega arith

-- with the room that is left beside letters in flight these are the keys that the machine pushes
pub keys_are_pushed : (flying : List Flight) (own to : ℕ) (node : plain.Node) (records : List Record) → keys_within (65536 - length flying) (536870912 - octets_flying flying) own to node records ≡ keys_pushed flying own to node records
keys_are_pushed flying own to node records = first_fitting own to node records (65536 - length flying) (length flying) (octets_flying flying) (due_to own to node) refl (due_to_owed own to node)

-- as many keys as are wanted at most, and their letters find room
pub first_few : (f : Key → List Letter) (most room : ℕ) (keys : List Key) → length (first_within f most room keys) ≤ most
first_few f most room [] = omega arith
first_few f zero room (key ∷ keys) = omega arith
first_few f (suc most) room (key ∷ keys) = by (nat_le (octets_of_all (f key)) room) (first_few f most (room - octets_of_all (f key)) keys)
  where
    by : (b : Bool) → length (first_within f most (room - octets_of_all (f key)) keys) ≤ most → length (cond b (key ∷ first_within f most (room - octets_of_all (f key)) keys) []) ≤ suc most
    by true rest = omega (arith, rest)
    by false rest = omega arith

octets_of_more : (xs ys : List Letter) → octets_of_all (xs ++ ys) ≡ octets_of_all xs + octets_of_all ys
octets_of_more [] ys = omega arith
octets_of_more (x ∷ xs) ys = omega (arith, octets_of_more xs ys)

pub first_small : (f : Key → List Letter) (most room : ℕ) (keys : List Key) → octets_of_all (flat_map f (first_within f most room keys)) ≤ room
first_small f most room [] = omega arith
first_small f zero room (key ∷ keys) = omega arith
first_small f (suc most) room (key ∷ keys) = by (nat_le (octets_of_all (f key)) room) refl (first_small f most (room - octets_of_all (f key)) keys)
  where
    by : (b : Bool) → nat_le (octets_of_all (f key)) room ≡ b → octets_of_all (flat_map f (first_within f most (room - octets_of_all (f key)) keys)) ≤ room - octets_of_all (f key)
        → octets_of_all (flat_map f (cond b (key ∷ first_within f most (room - octets_of_all (f key)) keys) [])) ≤ room
    by true is rest = omega (arith, octets_of_more (f key) (flat_map f (first_within f most (room - octets_of_all (f key)) keys)), rest, leb-true (octets_of_all (f key)) room is)
    by false is rest = omega arith

-- what is not told of a letter does not count
untold_octets : (letter : Letter) → octets_of (untold letter) ≡ octets_of letter
untold_octets letter = by letter.body
  where
    by : (body : Body) → 64 + message_octets (untold_body body) ≡ 64 + message_octets body
    by (Push key state None) = refl
    by (Push key state (Some octets)) = ap (λ (n : ℕ). 64 + n) (length-replicate (length octets) 0)
    by body = refl

untold_all : (letters : List Letter) → octets_of_all (map untold letters) ≡ octets_of_all letters
untold_all [] = refl
untold_all (letter ∷ letters) = omega (arith, untold_octets letter, untold_all letters)

untold_count : (letters : List Letter) → length (map untold letters) ≡ length letters
untold_count [] = refl
untold_count (letter ∷ letters) = ap suc (untold_count letters)

pub alike_octets : (a b : List Letter) → map untold a ≡ map untold b → octets_of_all b ≡ octets_of_all a
alike_octets a b alike = sym (untold_all b) ∙ ap octets_of_all (sym alike) ∙ untold_all a

pub alike_count : (a b : List Letter) → map untold a ≡ map untold b → length b ≡ length a
alike_count a b alike = sym (untold_count b) ∙ ap length (sym alike) ∙ untold_count a
