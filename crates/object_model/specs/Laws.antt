-- What holds of joins, and of the update log.
use Rattle.std.specs.Prelude.{◌≡◌, ◌≢◌, ℕ, true, List, Some, ◌↔◌}
use Rattle.std.specs.FinMap as fin
use Rattle.mail_model.specs.Identity.{Id, Key, State}
use Rattle.mail_model.specs.Identity.Key.{Message}
use Rattle.mail_model.specs.Identity.Value.{Gone}
use Rattle.mail_model.specs.Record.{Record}
use Rattle.object_model.specs.Lists.{Among}
use Rattle.object_model.specs.Sets.{has}
use Rattle.object_model.specs.States.{joined, join_all}
use Rattle.mail_model.specs.Grammar.{IsOfKind}
use Rattle.object_model.specs.Merge.{IsMerge}
use Rattle.object_model.specs.Said.{said, states_in}
use Rattle.object_model.specs.UpdateLog.{Logged, Log, noted, acknowledged, retired}

abbrev pub JoinsCommute : Type 0
JoinsCommute = (a b : State) → joined a b ≡ joined b a

abbrev pub JoinsAssociate : Type 0
JoinsAssociate = (a b c : State) → joined (joined a b) c ≡ joined a (joined b c)

abbrev pub JoinsRepeat : Type 0
JoinsRepeat = (a : State) → joined a a ≡ a

-- the join of states is what they come to as a set
abbrev pub JoinIsMerge : Type 0
JoinIsMerge = (states : List State) (join : State) → join_all states ≡ Some join → IsMerge states join

-- the same states in any order, and each any number of times, have one join
abbrev pub OneJoin : Type 0
OneJoin = (some others : List State) → ((state : State) → Among state some ↔ Among state others) → join_all some ≡ join_all others

-- a copy that is gone stays gone, whatever state of it comes
abbrev pub GoneStays : Type 0
GoneStays = (user : List ℕ) (id : Id) (a b : State) → IsOfKind (Message user id) a.value → IsOfKind (Message user id) b.value → a.value ≡ Gone → (joined a b).value ≡ Gone

-- what a disk says of a key is the join of the states that its records have of it
abbrev pub SaysJoin : Type 0
SaysJoin = (key : Key) (records : List Record) → said key records ≡ join_all (states_in key records)

-- Whoever acknowledges another state than that of the entry changes nothing.
abbrev pub ClearsThatStateAlone : Type 0
ClearsThatStateAlone = (key : Key) (state : State) (by : ℕ) (log : Log) (entry : Logged) → fin.get log key ≡ Some entry → entry.state ≢ state
    → (acknowledged key state by log ≡ log) × (retired key state log ≡ log)

-- What is noted is owed to exactly the targets other than the own node.
abbrev pub OwesTargets : Type 0
OwesTargets = (own : ℕ) (key : Key) (state : State) (log : Log) → (entry : Logged) × (fin.get (noted own key state log) key ≡ Some entry) × (entry.state ≡ state)
    × ((m : ℕ) → has entry.remaining m ≡ true ↔ ((has state.targets m ≡ true) × (m ≢ own)))

-- no step of the log changes an entry of another key
abbrev pub LeavesOtherKeys : Type 0
LeavesOtherKeys = (own : ℕ) (key : Key) (state : State) (by : ℕ) (log : Log) (other : Key) → other ≢ key
    → (fin.get (noted own key state log) other ≡ fin.get log other) × (fin.get (acknowledged key state by log) other ≡ fin.get log other)
    × (fin.get (retired key state log) other ≡ fin.get log other)
