-- What a node does to its store as it takes copies of a message, or a state that is pushed.
use Rattle.std.specs.Prelude.{ℕ, List, Option}
use Rattle.mail_model.specs.Identity.{Id, Stamp, Key, State}
use Rattle.cluster_model.specs.Store.{Store, take_one, take_all, here_updates}
use Rattle.cluster_model.specs.Rules.{with_pushed}
use Rattle.node_store.specs.Changes.{with_stored}

-- octets are stored where they are wanted, and each user's copy is taken
abbrev pub with_filed : ℕ → Id → Stamp → ℕ → List (List ℕ) → List ℕ → Store → Store
with_filed own id stamp targets users octets store = take_all own (here_updates id stamp targets users) (with_stored id users octets store)

abbrev pub with_pushed_octets : Key → Option (List ℕ) → Store → Store
with_pushed_octets key octets store = record { log = store.log; disk = with_pushed key octets store.disk }

-- so with a state that is pushed
abbrev pub with_state : ℕ → Key → State → Option (List ℕ) → Store → Store
with_state own key state octets store = take_one own (record { key = key; state = state }) (with_pushed_octets key octets store)
