-- The index of users that a table keeps beside its states.
use Rattle.std.specs.Prelude.{◌≡◌, Bool, true, false, List, ℕ, Option, Some, None, Result, Ok, Err, IfSome, IsSome, cond}
use Rattle.std.specs.List.Sorted.{IsStrictlySortedBy}
use Rattle.std.specs.Ordering.{nat_cmp}
use Rattle.std.specs.Cmp.Lexicographic.{slice_cmp}
use Rattle.std.specs.BTreeMap as tree
use Rattle.std.specs.FinMap as fin
use Rattle.mail_model.specs.Identity as plain
use Rattle.mail_model.specs.Identity.{State}
use Rattle.object_model.specs.Lists.{Among}
use Rattle.mail_model.specs.Grammar.{IsOfKind}
use Rattle.mail_base.specs.declared.key.Key.{Key}
use Rattle.mail_base.specs.declared.key.Key.TheVariants.{Profile}
use Rattle.object_table.specs.declared.user_keys.UserKeys.{UserKeys}
use Rattle.object_table.specs.Tables.{Table, HasUser}

-- the key that the index has for the user
abbrev pub key_in : List ℕ → UserKeys → Option Key
key_in user users = tree.get (slice_cmp nat_cmp) users.keys user

-- the index is as it was, but has this for the user
abbrev pub Sets : List ℕ → Option Key → UserKeys → UserKeys → Type 0
Sets user key old new = (other : List ℕ) → key_in other new ≡ cond (tree.is_at (slice_cmp nat_cmp user) other) key (key_in other old)

abbrev pub HasSameKeys : UserKeys → UserKeys → Type 0
HasSameKeys old new = (other : List ℕ) → key_in other new ≡ key_in other old

-- The user was put into the index: true where the user is new.
abbrev pub Added : {E : Type 0} → List ℕ → Result Bool E → UserKeys → UserKeys → Type 0
Added user (Ok true) old new = (key_in user old ≡ None) × Sets user (Some (Profile user)) old new
Added user (Ok false) old new = IsSome (key_in user old) × HasSameKeys old new
Added user (Err refused) old new = HasSameKeys old new

abbrev pub TookOut : List ℕ → UserKeys → UserKeys → Type 0
TookOut user old new = Sets user None old new

-- the names in the index, in order
pub record AreNamesOf (names : List (List ℕ)) (users : UserKeys) : Type 0 where
  pub in_order : IsStrictlySortedBy (slice_cmp nat_cmp) names
  pub inside : (user : List ℕ) → Among user names → IsSome (key_in user users)
  pub all : (user : List ℕ) → IsSome (key_in user users) → Among user names

-- Each state is of its key's kind, and the index has exactly the users of whom something stands, each with the key of the profile.
pub record IsIndexed (states : Table) (users : UserKeys) : Type 0 where
  pub kinds : (key : plain.Key) (state : State) → fin.get states key ≡ Some state → IsOfKind key state.value
  pub keys : (user : List ℕ) → IfSome (key_in user users) (λ key. key ≡ Profile user)
  pub standing : (user : List ℕ) → IsSome (key_in user users) → HasUser user states
  pub all : (user : List ℕ) → HasUser user states → IsSome (key_in user users)
