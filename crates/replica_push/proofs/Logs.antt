-- Entries that are taken out of a log.
use Rattle.std.proofs.Common.{◌≡◌, ⊎_elim, ℕ, ◌&&◌, Bool, true, false, cond, Option, Some, None, nat_eq, refl, sym, ap, subst, ◌∙◌, eq-eqb}
use Rattle.std.specs.FinMap as fin
use Rattle.std.specs.FinMap.{FinMap, same_map, get-remove}
use Rattle.std.specs.Cmp.{Equal-is, tied_itself}
use Rattle.std.specs.Cmp.Lexicographic.{bytes_decides}
use Rattle.std.proofs.lemmas.Bool.{and_parts, and_from}
use Rattle.mail_model.specs.Identity.{Key, Value, State}
use Rattle.mail_model.specs.Identity.Value.{Here, Gone, Secret}
use Rattle.object_model.specs.Sets.{has, without_node}
use Rattle.object_model.specs.Keys.{key_cmp}
use Rattle.object_model.specs.States.{is_same_value, is_same_stamp, is_same_state}
use Rattle.object_model.specs.UpdateLog.{Logged, Log, new_entry, noted, is_of, cleared, cleared_at, acknowledged, retired}
use Rattle.object_model.proofs.MapLaws.{key_total, key_exact, written, kept_other, left_other}
use Rattle.mail_base.proofs.KeyWrites.{same_or}
use Rattle.update_log.specs.declared.logged.Acked.TheVariants.{Cleared, Emptied, Other}
use Rattle.update_log.specs.Answers.{answer_at}

-- nothing stands under a key that was taken out
gone : {X : Type 0} (m : FinMap key_cmp X) (k : Key) → fin.get (fin.remove m k) k ≡ None
gone m k = get-remove key_total m k k ∙ ap (λ b. cond b None (fin.get m k)) ((Equal-is (key_cmp k k)).1 (tied_itself key_total k))

-- what was put under a key is of no matter once it is taken out
removed_again : {X : Type 0} (m : FinMap key_cmp X) (k : Key) (x : X) → fin.remove (fin.insert m k x) k ≡ fin.remove m k
removed_again m k x = same_map key_total key_exact (fin.remove (fin.insert m k x) k) (fin.remove m k) (λ q. ⊎_elim
    (λ same. subst (λ (j : Key). fin.get (fin.remove (fin.insert m k x) k) j ≡ fin.get (fin.remove m k) j) (sym same) (gone (fin.insert m k x) k ∙ sym (gone m k)))
    (λ apart. left_other key_total key_exact (fin.insert m k x) k q apart ∙ kept_other key_total key_exact m k x q apart ∙ sym (left_other key_total key_exact m k q apart))
    (same_or q k))

removed_none : {X : Type 0} (m : FinMap key_cmp X) (k : Key) → fin.get m k ≡ None → fin.remove m k ≡ m
removed_none m k none = same_map key_total key_exact (fin.remove m k) m (λ q. ⊎_elim
    (λ same. subst (λ (j : Key). fin.get (fin.remove m k) j ≡ fin.get m j) (sym same) (gone m k ∙ sym none))
    (λ apart. left_other key_total key_exact m k q apart)
    (same_or q k))

value_self : (v : Value) → is_same_value v v ≡ true
value_self Here = refl
value_self Gone = refl
value_self (Secret octets) = (bytes_decides octets octets).1 refl

pub state_self : (s : State) → is_same_state s s ≡ true
state_self s = and_from (is_same_value s.value s.value && is_same_stamp s.stamp s.stamp) (nat_eq s.targets s.targets)
    (and_from (is_same_value s.value s.value) (is_same_stamp s.stamp s.stamp) (value_self s.value)
    (and_from (nat_eq s.stamp.count s.stamp.count && nat_eq s.stamp.boot s.stamp.boot) (nat_eq s.stamp.node s.stamp.node)
    (and_from (nat_eq s.stamp.count s.stamp.count) (nat_eq s.stamp.boot s.stamp.boot) (eq-eqb s.stamp.count s.stamp.count refl) (eq-eqb s.stamp.boot s.stamp.boot refl))
    (eq-eqb s.stamp.node s.stamp.node refl)))
    (eq-eqb s.targets s.targets refl)

-- an entry of that state under the key is taken out
pub retired_entry : (log : Log) (k : Key) (state : State) (entry : Logged) → is_same_state entry.state state ≡ true → retired k state (fin.insert log k entry) ≡ fin.remove log k
retired_entry log k state entry same =
    ap (λ b. cond b (fin.remove (fin.insert log k entry) k) (fin.insert log k entry)) (ap (is_of state) (written key_total key_exact log k entry) ∙ same)
    ∙ removed_again log k entry

-- a state that is noted and retired again leaves the log as it was, where it had no entry
pub noted_back : (log : Log) (k : Key) (own : ℕ) (state : State) → fin.get log k ≡ None → retired k state (noted own k state log) ≡ log
noted_back log k own state none = retired_entry log k state (new_entry own state) (state_self state) ∙ removed_none log k none

-- the entry whose last node has acknowledged it is taken out
pub emptied : (log : Log) (k : Key) (state : State) (by : ℕ) → answer_at state by (fin.get log k) ≡ Emptied → retired k state (acknowledged k state by log) ≡ fin.remove log k
emptied log k state by answer = at (fin.get log k) answer
  where
    tested : (entry : Logged) (b : Bool) → is_same_state entry.state state && has entry.remaining by ≡ b
        → cond b (cond (nat_eq (without_node entry.remaining by) 0) Emptied Cleared) Other ≡ Emptied
        → retired k state (cond b (fin.insert log k (cleared by entry)) log) ≡ fin.remove log k
    tested entry true e h = retired_entry log k state (cleared by entry) (and_parts (is_same_state entry.state state) (has entry.remaining by) e).0
    tested entry false e h = absurd (cc h)

    at : (held : Option Logged) → answer_at state by held ≡ Emptied → retired k state (cleared_at k state by held log) ≡ fin.remove log k
    at None h = absurd (cc h)
    at (Some entry) h = tested entry (is_same_state entry.state state && has entry.remaining by) refl h
