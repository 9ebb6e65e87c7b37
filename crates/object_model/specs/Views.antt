-- That a copy is here, or gone, is read off what the disk says of its key: the join of all its states.
use Rattle.std.specs.Prelude.{◌≡◌, ℕ, List, Some, All, ◌↔◌}
use Rattle.mail_model.specs.Identity.{Id, State}
use Rattle.mail_model.specs.Identity.Key.{Message}
use Rattle.mail_model.specs.Identity.Value.{Here, Gone}
use Rattle.mail_model.specs.Record.{Record, SaysHere, SaysGone}
use Rattle.mail_model.specs.Grammar.{IsRecord}
use Rattle.object_model.specs.Said.{said}

-- records of a journal say that the copy is here exactly where their join is
abbrev pub HereIsSaid : Type 0
HereIsSaid = (user : List ℕ) (id : Id) (records : List Record) → All IsRecord records
    → SaysHere (Message user id) records ↔ ((state : State) × (said (Message user id) records ≡ Some state) × (state.value ≡ Here))

-- and that it is gone exactly where their join is
abbrev pub GoneIsSaid : Type 0
GoneIsSaid = (user : List ℕ) (id : Id) (records : List Record) → All IsRecord records
    → SaysGone (Message user id) records ↔ ((state : State) × (said (Message user id) records ≡ Some state) × (state.value ≡ Gone))
