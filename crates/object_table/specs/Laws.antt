-- What holds of a table, whatever was taken.
use Rattle.std.specs.Prelude.{◌≡◌, ◌↔◌, List, Some}
use Rattle.std.specs.FinMap as fin
use Rattle.mail_model.specs.Identity.{Key, State}
use Rattle.object_model.specs.Lists.{Among}
use Rattle.object_model.specs.States.{join_all}
use Rattle.object_model.specs.Merge.{IsMerge}
use Rattle.object_table.specs.Tables.{Update, table_after, states_of}

-- what stands of an object is the join of the states of it that were taken, and nothing where none was
abbrev pub HoldsJoins : Type 0
HoldsJoins = (updates : List Update) (key : Key) → fin.get (table_after updates fin.empty) key ≡ join_all (states_of key updates)

-- so it is the greatest of them as a set, with the targets of all
abbrev pub HoldsMerges : Type 0
HoldsMerges = (updates : List Update) (key : Key) (held : State) → fin.get (table_after updates fin.empty) key ≡ Some held → IsMerge (states_of key updates) held

-- the same states in any order, and each any number of times, make equal tables
abbrev pub AnyOrder : Type 0
AnyOrder = (some others : List Update) → ((update : Update) → Among update some ↔ Among update others) → table_after some fin.empty ≡ table_after others fin.empty
