-- The join of a set of states in the subject's words: it does not speak of an order, nor of how often a state is there.
use Rattle.std.specs.Prelude.{◌≡◌, ℕ, false, List}
use Rattle.std.specs.Int.{bit_at}
use Rattle.mail_model.specs.Identity.{State}
use Rattle.object_model.specs.Lists.{Among}
use Rattle.object_model.specs.States.{is_below}

-- It has value and stamp of one of them, none of them is above it, and its targets are those of all: bit k of a mask is node k + 1.
pub record IsMerge (states : List State) (merge : State) : Type 0 where
  pub top : State
  pub inside : Among top states
  pub same_value : merge.value ≡ top.value
  pub same_stamp : merge.stamp ≡ top.stamp
  pub greatest : (one : State) → Among one states → is_below merge one ≡ false
  pub targets_from : (k : ℕ) → bit_at merge.targets k ≡ 1 → (one : State) × Among one states × (bit_at one.targets k ≡ 1)
  pub targets_to : (k : ℕ) (one : State) → Among one states → bit_at one.targets k ≡ 1 → bit_at merge.targets k ≡ 1
