-- What a node does with a state that it hears or makes: it joins it to what its disk says, records the join where it differs, and notes it for its targets.
use Rattle.std.specs.Prelude.{ℕ, Bool, not, nat_eq, List, [], ◌∷◌, ◌++◌, map, is_some, ◌&&◌, if◌then◌else◌}
use Rattle.std.specs.List.{list_any}
use Rattle.std.specs.FinMap as fin
use Rattle.mail_model.specs.Identity.{Id, Stamp, Key, State}
use Rattle.mail_model.specs.Identity.Key.{Message}
use Rattle.mail_model.specs.Identity.Value.{Here, Gone}
use Rattle.mail_model.specs.Record.{Record}
use Rattle.mail_model.specs.Record.Record.{Octets, Stated, Retired}
use Rattle.mail_model.specs.Listing.{octets_in}
use Rattle.object_model.specs.Sets.{without_node}
use Rattle.object_model.specs.Keys.{is_same_key}
use Rattle.object_model.specs.States.{join_with, is_news}
use Rattle.object_model.specs.Said.{said, is_gone_held}
use Rattle.object_model.specs.Letters.{DeletionMark}
use Rattle.object_model.specs.UpdateLog.{Log, noted}

-- an update log and the records of its node's disk
pub record Store : Type 0 where
  pub log : Log
  pub disk : List Record

-- an object and a state of it
pub record Update : Type 0 where
  pub key : Key
  pub state : State

-- The state is recorded, and noted for its targets. Where no other node is a target it is retired at once.
abbrev pub recorded : ℕ → Key → State → Store → Store
recorded own key state store =
    if nat_eq (without_node state.targets own) 0
    then record { log = fin.remove store.log key; disk = store.disk ++ Stated key state ∷ Retired key state ∷ [] }
    else record { log = noted own key state store.log; disk = store.disk ++ Stated key state ∷ [] }

-- the state is taken: its join is recorded and noted where it differs from what was held
abbrev pub take_one : ℕ → Update → Store → Store
take_one own update store =
    if is_news (said update.key store.disk) update.state then recorded own update.key (join_with (said update.key store.disk) update.state) store else store

-- these, one after another
abbrev pub take_all : ℕ → List Update → Store → Store
take_all own [] store = store
take_all own (update ∷ updates) store = take_all own updates (take_one own update store)

-- a copy that is here, for each user
abbrev pub here_updates : Id → Stamp → ℕ → List (List ℕ) → List Update
here_updates id stamp targets users = map (λ user. record { key = Message user id; state = record { value = Here; stamp = stamp; targets = targets } }) users

-- a copy that is gone, for each mark
abbrev pub gone_updates : List ℕ → ℕ → List DeletionMark → List Update
gone_updates user targets marks = map (λ mark. record { key = Message user mark.id; state = record { value = Gone; stamp = mark.stamp; targets = targets } }) marks

-- whether octets of the message are to be stored: some user's join is here, and none are stored yet
abbrev pub is_wanted : Id → List (List ℕ) → List Record → Bool
is_wanted id users disk = list_any (λ user. not (is_gone_held (said (Message user id) disk))) users && not (is_some (octets_in id disk))

-- the disk with the octets, where they are wanted
abbrev pub with_octets : Id → List (List ℕ) → List ℕ → List Record → List Record
with_octets id users octets disk = disk ++ (if is_wanted id users disk then Octets id octets ∷ [] else [])

-- the states of a key among these
abbrev pub updates_of : Key → List Update → List State
updates_of key [] = []
updates_of key (update ∷ updates) = (if is_same_key update.key key then update.state ∷ [] else []) ++ updates_of key updates
