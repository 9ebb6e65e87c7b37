-- Which messages of a user are here, by a table.
use Rattle.std.specs.Prelude.{◌≡◌, ℕ, true, ◌&&◌, nat_eq, List, [], ◌∷◌, Option, Some, None, if◌then◌else◌}
use Rattle.std.specs.List.Sorted.{IsStrictlySortedBy}
use Rattle.std.specs.Cmp.Lexicographic.{pointwise}
use Rattle.std.specs.FinMap as fin
use Rattle.mail_model.specs.Identity.{Id, Key, State}
use Rattle.mail_model.specs.Identity.Key.{Profile, Message}
use Rattle.mail_model.specs.Listing.{is_here}
use Rattle.mail_model.specs.Grammar.{IsId}
use Rattle.object_model.specs.Keys.{id_cmp}
use Rattle.object_model.specs.Lists.{Among}
use Rattle.object_table.specs.Tables.{Table}

-- the message of which the object is this user's copy, where it is one and is here
abbrev pub copy_here : List ℕ → Key → State → Option Id
copy_here user (Profile name) state = None
copy_here user (Message name id) state = if pointwise nat_eq name user && is_here state.value then Some id else None

abbrev pub onto : Option Id → List Id → List Id
onto None ids = ids
onto (Some id) ids = id ∷ ids

-- the messages of the user that are here by these entries, in their order
abbrev pub ids_here : List ℕ → List (Key × State) → List Id
ids_here user [] = []
ids_here user (entry ∷ entries) = onto (copy_here user entry.0 entry.1) (ids_here user entries)

-- it stands that the user's copy of the message is here
pub record StandsHere (user : List ℕ) (table : Table) (id : Id) : Type 0 where
  pub state : State
  pub is : fin.get table (Message user id) ≡ Some state
  pub here : is_here state.value ≡ true

-- The messages of the user that are here, each once, by node, boot and number. Of the ids they are all that a journal can spell.
pub record AreHere (user : List ℕ) (table : Table) (ids : List Id) : Type 0 where
  pub in_order : IsStrictlySortedBy id_cmp ids
  pub standing : (id : Id) → Among id ids → StandsHere user table id
  pub all : (id : Id) → IsId id → StandsHere user table id → Among id ids

-- the least and the greatest id that a journal can spell
abbrev pub least_id : Id
least_id = record { node = 1; boot = 1; seq = 1 }

abbrev pub greatest_id : Id
greatest_id = record { node = 16; boot = 4294967295; seq = 18446744073709551615 }
