-- Which users records speak of, and which messages of a user are here by them.
use Rattle.std.specs.Prelude.{◌≡◌, ℕ, true, List, Some}
use Rattle.std.specs.List.Sorted.{IsStrictlySortedBy}
use Rattle.std.specs.Ordering.{nat_cmp}
use Rattle.std.specs.Cmp.Lexicographic.{slice_cmp}
use Rattle.mail_model.specs.Identity.{Id, Key, State}
use Rattle.mail_model.specs.Identity.Key.{Message}
use Rattle.mail_model.specs.Grammar.{IsId}
use Rattle.mail_model.specs.Record.{Record}
use Rattle.object_model.specs.Keys.{id_cmp, user_of}
use Rattle.object_model.specs.Lists.{Among}
use Rattle.object_model.specs.Said.{said}
use Rattle.cluster_model.specs.Reads.{is_here_held}

-- The ids of the user's copies of which these records say that they are here, each once, by node, boot and number. They are all that a journal can spell.
pub record AreIdsHere (user : List ℕ) (records : List Record) (ids : List Id) : Type 0 where
  pub in_order : IsStrictlySortedBy id_cmp ids
  pub here : (id : Id) → Among id ids → is_here_held (said (Message user id) records) ≡ true
  pub all : (id : Id) → IsId id → is_here_held (said (Message user id) records) ≡ true → Among id ids

-- the records say a state of some object of the user
pub record IsSaidOf (user : List ℕ) (records : List Record) : Type 0 where
  pub key : Key
  pub state : State
  pub is : said key records ≡ Some state
  pub of_user : user_of key ≡ user

-- the names of all users of whom these records say something, each once, in order
pub record AreUsersSaid (records : List Record) (names : List (List ℕ)) : Type 0 where
  pub in_order : IsStrictlySortedBy (slice_cmp nat_cmp) names
  pub said_of : (user : List ℕ) → Among user names → IsSaidOf user records
  pub all : (key : Key) (state : State) → said key records ≡ Some state → Among (user_of key) names
