-- The table of a node: a state for each object, and what taking states does to it.
use Rattle.std.specs.Prelude.{◌≡◌, List, [], ◌∷◌, ◌++◌, ℕ, Some, if◌then◌else◌}
use Rattle.std.specs.List.Sorted.{IsStrictlySortedBy}
use Rattle.std.specs.Ordering.{nat_cmp}
use Rattle.std.specs.Cmp.Lexicographic.{slice_cmp}
use Rattle.std.specs.FinMap as fin
use Rattle.mail_model.specs.Identity.{Key, State}
use Rattle.object_model.specs.Lists.{Among}
use Rattle.object_model.specs.Keys.{key_cmp, user_of, is_same_key}
use Rattle.object_model.specs.States.{join_with}

abbrev pub Table : Type 0
Table = fin.FinMap key_cmp State

-- the table once the state was taken: what stood of the object is joined with it
abbrev pub taken : Key → State → Table → Table
taken key state table = fin.insert table key (join_with (fin.get table key) state)

-- an object and a state of it
pub record Update : Type 0 where
  pub key : Key
  pub state : State

-- these are taken, one after another
abbrev pub table_after : List Update → Table → Table
table_after [] table = table
table_after (update ∷ updates) table = table_after updates (taken update.key update.state table)

-- the states of one object among these
abbrev pub states_of : Key → List Update → List State
states_of key [] = []
states_of key (update ∷ updates) = (if is_same_key update.key key then update.state ∷ [] else []) ++ states_of key updates

-- something stands of the user
pub record HasUser (user : List ℕ) (table : Table) : Type 0 where
  pub key : Key
  pub state : State
  pub is : fin.get table key ≡ Some state
  pub of_user : user_of key ≡ user

-- the names of the users of whom something stands, each once, in order
pub record AreUsers (names : List (List ℕ)) (table : Table) : Type 0 where
  pub in_order : IsStrictlySortedBy (slice_cmp nat_cmp) names
  pub standing : (user : List ℕ) → Among user names → HasUser user table
  pub all : (user : List ℕ) → HasUser user table → Among user names
