-- Joins of states, and what records say.
use Rattle.std.proofs.Common.{◌≡◌, ◌≢◌, ◌⊎◌, inl, inr, Bool, true, false, ◌&&◌, cond, refl, sym, ap, nat_eq, true≢false, eq-eqb, eqb-true}
use Rattle.std.specs.Ordering.{is_lt}
use Rattle.std.specs.Cmp.{IsTotalOrder, nat_cmp_total, tied_itself}
use Rattle.std.specs.Cmp.Lexicographic.{pointwise, bytes_decides, nat_list_cmp_total}
use Rattle.std.proofs.lemmas.Cmp.{then_total, on_total}
use Rattle.std.proofs.lemmas.Bool.{and_parts, and_from, false_from_ne_true}
use Rattle.mail_model.specs.Identity.{Id, Key, Value, State}
use Rattle.mail_model.specs.Identity.Key.{Profile, Message}
use Rattle.mail_model.specs.Identity.Value.{Here, Gone, Secret}
use Rattle.mail_model.specs.Record.{rank_of}
use Rattle.mail_model.specs.Listing.{is_same_id}
use Rattle.object_model.specs.Keys.{is_same_key}
use Rattle.object_model.specs.States.{secret_in, state_cmp, is_below, later, joined, is_same_value, is_same_stamp, is_same_state}

-- a test tells that both are the same, and that one is itself
pub id_is : (a b : Id) → is_same_id a b ≡ true → a ≡ b
id_is a b h =
    let last = and_parts (nat_eq a.node b.node && nat_eq a.boot b.boot) (nat_eq a.seq b.seq) h in
    let both = and_parts (nat_eq a.node b.node) (nat_eq a.boot b.boot) last.0 in
    let nodes : a.node ≡ b.node = eqb-true a.node b.node both.0 in
    let boots : a.boot ≡ b.boot = eqb-true a.boot b.boot both.1 in
    let seqs : a.seq ≡ b.seq = eqb-true a.seq b.seq last.1 in
    λ i. record { node = nodes i; boot = boots i; seq = seqs i }

pub id_self : (a : Id) → is_same_id a a ≡ true
id_self a = and_from (nat_eq a.node a.node && nat_eq a.boot a.boot) (nat_eq a.seq a.seq)
    (and_from (nat_eq a.node a.node) (nat_eq a.boot a.boot) (eq-eqb a.node a.node refl) (eq-eqb a.boot a.boot refl)) (eq-eqb a.seq a.seq refl)

pub key_is : (a b : Key) → is_same_key a b ≡ true → a ≡ b
key_is (Profile a) (Profile b) h = ap Profile ((bytes_decides a b).0 h)
key_is (Profile a) (Message b j) h = absurd (true≢false (sym h))
key_is (Message a i) (Profile b) h = absurd (true≢false (sym h))
key_is (Message a i) (Message b j) h =
    let parts = and_parts (pointwise nat_eq a b) (is_same_id i j) h in
    let users : a ≡ b = (bytes_decides a b).0 parts.0 in
    let ids : i ≡ j = id_is i j parts.1 in
    λ x. Message (users x) (ids x)

pub key_self : (a : Key) → is_same_key a a ≡ true
key_self (Profile a) = (bytes_decides a a).1 refl
key_self (Message a i) = and_from (pointwise nat_eq a a) (is_same_id i i) ((bytes_decides a a).1 refl) (id_self i)

pub key_apart : (a b : Key) → a ≢ b → is_same_key a b ≡ false
key_apart a b apart = false_from_ne_true (is_same_key a b) (λ h. apart (key_is a b h))

value_is : (a b : Value) → is_same_value a b ≡ true → a ≡ b
value_is Here Here h = refl
value_is Gone Gone h = refl
value_is (Secret a) (Secret b) h = ap Secret ((bytes_decides a b).0 h)
value_is Here Gone h = absurd (true≢false (sym h))
value_is Here (Secret b) h = absurd (true≢false (sym h))
value_is Gone Here h = absurd (true≢false (sym h))
value_is Gone (Secret b) h = absurd (true≢false (sym h))
value_is (Secret a) Here h = absurd (true≢false (sym h))
value_is (Secret a) Gone h = absurd (true≢false (sym h))

pub state_is : (a b : State) → is_same_state a b ≡ true → a ≡ b
state_is a b h =
    let last = and_parts (is_same_value a.value b.value && is_same_stamp a.stamp b.stamp) (nat_eq a.targets b.targets) h in
    let first = and_parts (is_same_value a.value b.value) (is_same_stamp a.stamp b.stamp) last.0 in
    let values : a.value ≡ b.value = value_is a.value b.value first.0 in
    let stamps = and_parts (nat_eq a.stamp.count b.stamp.count && nat_eq a.stamp.boot b.stamp.boot) (nat_eq a.stamp.node b.stamp.node) first.1 in
    let both = and_parts (nat_eq a.stamp.count b.stamp.count) (nat_eq a.stamp.boot b.stamp.boot) stamps.0 in
    let counts : a.stamp.count ≡ b.stamp.count = eqb-true a.stamp.count b.stamp.count both.0 in
    let boots : a.stamp.boot ≡ b.stamp.boot = eqb-true a.stamp.boot b.stamp.boot both.1 in
    let nodes : a.stamp.node ≡ b.stamp.node = eqb-true a.stamp.node b.stamp.node stamps.1 in
    let targets : a.targets ≡ b.targets = eqb-true a.targets b.targets last.1 in
    λ i. record { value = values i; stamp = record { count = counts i; boot = boots i; node = nodes i }; targets = targets i }

pub state_total : IsTotalOrder state_cmp
state_total = then_total (on_total (λ s. rank_of s.value) nat_cmp_total) (then_total (on_total (λ s. s.stamp.count) nat_cmp_total) (then_total (on_total (λ s. s.stamp.boot) nat_cmp_total)
    (then_total (on_total (λ s. s.stamp.node) nat_cmp_total) (on_total (λ s. secret_in s.value) nat_list_cmp_total))))

-- no state is below itself
pub not_below_self : (s : State) → is_below s s ≡ false
not_below_self s = ap is_lt (tied_itself state_total s)

-- the later of both is not below the second
later_above : (a b : State) → is_below (later a b) b ≡ false
later_above a b = by (is_below a b) refl
  where
    by : (t : Bool) → is_below a b ≡ t → is_below (cond t b a) b ≡ false
    by true e = not_below_self b
    by false e = e

-- the order reads value and stamp alone
pub joined_above : (a b : State) → is_below (joined a b) b ≡ false
joined_above a b = later_above a b

-- and is one of both
pub later_is : (P : Value → Type 0) (a b : State) → P a.value → P b.value → P (joined a b).value
later_is P a b p q = by (is_below a b)
  where
    by : (t : Bool) → P (cond t b a).value
    by true = q
    by false = p

pub later_from : (P : Value → Type 0) (a b : State) → P (joined a b).value → P a.value ⊎ P b.value
later_from P a b = by (is_below a b)
  where
    by : (t : Bool) → P (cond t b a).value → P a.value ⊎ P b.value
    by true h = inr h
    by false h = inl h
