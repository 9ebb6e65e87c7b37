-- The steps of the update log.
use Rattle.std.proofs.Common.{◌≡◌, ◌≢◌, ℕ, Bool, true, false, ◌&&◌, cond, Option, Some, None, refl, ap, ◌∙◌}
use Rattle.std.specs.Prelude.{◌↔◌}
use Rattle.std.specs.FinMap as fin
use Rattle.mail_model.specs.Identity.{Key, State}
use Rattle.object_model.specs.Sets.{has}
use Rattle.object_model.specs.States.{is_same_state}
use Rattle.object_model.specs.UpdateLog.{Logged, Log, new_entry, noted, is_of, cleared, cleared_at, acknowledged, retired}
use Rattle.object_model.proofs.SetLaws.{left_in, still_in}
use Rattle.object_model.proofs.StateLaws.{state_is}
use Rattle.object_model.proofs.MapLaws.{key_total, key_exact, written, kept_other, left_other}

other_state : (a b : State) → a ≢ b → is_same_state a b ≡ false
other_state a b apart = by (is_same_state a b) refl
  where
    by : (t : Bool) → is_same_state a b ≡ t → t ≡ false
    by true e = absurd (apart (state_is a b e))
    by false e = refl

pub clears_that : (key : Key) (state : State) (by : ℕ) (log : Log) (entry : Logged) → fin.get log key ≡ Some entry → entry.state ≢ state
    → (acknowledged key state by log ≡ log) × (retired key state log ≡ log)
clears_that key state by log entry h apart = (
  ap (λ found. cleared_at key state by found log) h ∙ ap (λ t. cond (t && has entry.remaining by) (fin.insert log key (cleared by entry)) log) (other_state entry.state state apart),
  ap (λ found. cond (is_of state found) (fin.remove log key) log) h ∙ ap (λ t. cond t (fin.remove log key) log) (other_state entry.state state apart),
)

pub owes_all : (own : ℕ) (key : Key) (state : State) (log : Log) → (entry : Logged) × (fin.get (noted own key state log) key ≡ Some entry) × (entry.state ≡ state)
    × ((m : ℕ) → has entry.remaining m ≡ true ↔ ((has state.targets m ≡ true) × (m ≢ own)))
owes_all own key state log = (new_entry own state, written key_total key_exact log key (new_entry own state), refl, λ m. (left_in state.targets own m, λ p. still_in state.targets own m p.0 p.1))

pub leaves_others : (own : ℕ) (key : Key) (state : State) (by : ℕ) (log : Log) (other : Key) → other ≢ key
    → (fin.get (noted own key state log) other ≡ fin.get log other) × (fin.get (acknowledged key state by log) other ≡ fin.get log other)
    × (fin.get (retired key state log) other ≡ fin.get log other)
leaves_others own key state by log other apart = (kept_other key_total key_exact log key (new_entry own state) other apart, acked (fin.get log key), gone (is_of state (fin.get log key)))
  where
    acked : (found : Option Logged) → fin.get (cleared_at key state by found log) other ≡ fin.get log other
    acked None = refl
    acked (Some entry) = test (is_same_state entry.state state && has entry.remaining by)
      where
        test : (t : Bool) → fin.get (cond t (fin.insert log key (cleared by entry)) log) other ≡ fin.get log other
        test true = kept_other key_total key_exact log key (cleared by entry) other apart
        test false = refl

    gone : (t : Bool) → fin.get (cond t (fin.remove log key) log) other ≡ fin.get log other
    gone true = left_other key_total key_exact log key other apart
    gone false = refl
