-- What a disk's records say of an object.
use Rattle.std.specs.Prelude.{◌≡◌, ℕ, Bool, true, false, List, [], ◌∷◌, ◌++◌, Option, Some, None, if◌then◌else◌}
use Rattle.mail_model.specs.Identity.{Key, State}
use Rattle.mail_model.specs.Record.{Record}
use Rattle.mail_model.specs.Record.Record.{Boot, Promise, Octets, Stated, Retired}
use Rattle.mail_model.specs.Listing.{is_gone}
use Rattle.object_model.specs.Lists.{Among}
use Rattle.object_model.specs.Sets.{has}
use Rattle.object_model.specs.Keys.{is_same_key}
use Rattle.object_model.specs.States.{is_below, join_with}

-- what is held of the key, once the records are joined to it one by one
abbrev pub held_after : Key → Option State → List Record → Option State
held_after key held [] = held
held_after key held (Stated other state ∷ records) = held_after key (if is_same_key other key then Some (join_with held state) else held) records
held_after key held (Boot boot ∷ records) = held_after key held records
held_after key held (Octets id octets ∷ records) = held_after key held records
held_after key held (Promise epoch ∷ records) = held_after key held records
held_after key held (Retired other state ∷ records) = held_after key held records

-- what a disk says of the key
abbrev pub said : Key → List Record → Option State
said key records = held_after key None records

-- whether it says that the key is gone
abbrev pub is_gone_held : Option State → Bool
is_gone_held None = false
is_gone_held (Some held) = is_gone held.value

-- Records say of the key at least this: one of them is not below the state, and each of its targets is a target of one of them.
pub record CoversAtLeast (key : Key) (state : State) (records : List Record) : Type 0 where
  pub top : State
  pub inside : Among (Stated key top) records
  pub not_below : is_below top state ≡ false
  pub targets : (m : ℕ) → has state.targets m ≡ true → (one : State) × Among (Stated key one) records × (has one.targets m ≡ true)

-- the states of the key among these records, in order
abbrev pub states_in : Key → List Record → List State
states_in key [] = []
states_in key (Stated other state ∷ records) = (if is_same_key other key then state ∷ [] else []) ++ states_in key records
states_in key (Boot boot ∷ records) = states_in key records
states_in key (Promise epoch ∷ records) = states_in key records
states_in key (Octets id octets ∷ records) = states_in key records
states_in key (Retired other state ∷ records) = states_in key records
