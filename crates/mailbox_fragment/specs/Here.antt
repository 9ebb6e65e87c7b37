-- Which messages of each user are here.
use Rattle.std.specs.Prelude.{◌≡◌, ◌&&◌, Bool, true, false, not, List, [], ◌∷◌, map, ℕ, Option, Some, None, if◌then◌else◌}
use Rattle.std.specs.Ordering.{nat_cmp, eq_by_cmp}
use Rattle.std.specs.Cmp.Lexicographic.{slice_cmp}
use Rattle.std.specs.List.{list_any, filter}
use Rattle.std.specs.List.Sorted.{IsStrictlySortedBy}
use Rattle.std.specs.BTreeMap as tree
use Rattle.std.specs.BTreeSet.{BTreeSet}
use Rattle.mail_model.specs.Identity.{Id}
use Rattle.mail_base.specs.Orders.{id_cmp}
use Rattle.mailbox_fragment.specs.declared.fragments.Fragments.{Fragments}

abbrev pub ids_at : Option (BTreeSet Id) → List Id
ids_at None = []
ids_at (Some ids) = ids.keys

-- the ids of the user's messages that are here
abbrev pub ids_of : Fragments → List ℕ → List Id
ids_of fragments user = ids_at (tree.get (slice_cmp nat_cmp) fragments.users user)

abbrev pub has_id : List Id → Id → Bool
has_id ids id = list_any (eq_by_cmp id_cmp id) ids

-- whether this message of the user is here
abbrev pub is_here_in : Fragments → List ℕ → Id → Bool
is_here_in fragments user id = has_id (ids_of fragments user) id

abbrev pub is_none : List Id → Bool
is_none [] = true
is_none (id ∷ ids) = false

-- whether no message of the user is here
abbrev pub is_empty : Fragments → List ℕ → Bool
is_empty fragments user = is_none (ids_of fragments user)

-- The message of the user is here, or is not, and all else is as it was.
abbrev pub SetsMessage : Fragments → Fragments → List ℕ → Id → Bool → Type 0
SetsMessage old new user id here = (other : List ℕ) (message : Id) →
    is_here_in new other message ≡ (if eq_by_cmp (slice_cmp nat_cmp) user other && eq_by_cmp id_cmp id message then here else is_here_in old other message)

-- all is as it was
abbrev pub HasSameMessages : Fragments → Fragments → Type 0
HasSameMessages old new = (user : List ℕ) → ids_of new user ≡ ids_of old user

-- whether the one is so and the other is not
abbrev pub differ : Bool → Bool → Bool
differ true b = not b
differ false b = b

-- whether the user became full or empty
abbrev pub flips : Fragments → Fragments → List ℕ → Bool
flips old new user = differ (is_empty old user) (is_empty new user)

-- the ids of the user's messages that are here, each once, by node, boot and number
pub record AreIdsOf (ids : List Id) (fragments : Fragments) (user : List ℕ) : Type 0 where
  pub in_order : IsStrictlySortedBy id_cmp ids
  pub those : (id : Id) → has_id ids id ≡ is_here_in fragments user id

-- of the entries of a map those users who have messages
abbrev pub full_in : List (List ℕ × BTreeSet Id) → List (List ℕ)
full_in entries = map (λ entry. entry.0) (filter (λ entry. not (is_none entry.1.keys)) entries)

-- these are the users of whom a message is here
abbrev pub AreUsersOf : List (List ℕ) → Fragments → Type 0
AreUsersOf users fragments = (user : List ℕ) → list_any (eq_by_cmp (slice_cmp nat_cmp) user) users ≡ not (is_empty fragments user)
