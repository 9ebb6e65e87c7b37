-- What a node tells of a user's messages that are here.
use Rattle.std.specs.Prelude.{◌≡◌, ℕ, Bool, List, [], ◌∷◌, length, Option, Some, None, if◌then◌else◌}
use Rattle.std.specs.Ordering.{is_lt}
use Rattle.std.specs.List.Sorted.{IsSortedBy}
use Rattle.mail_model.specs.Identity.{Id, State}
use Rattle.mail_model.specs.Identity.Key.{Message}
use Rattle.mail_model.specs.Listing.{is_here, octets_in}
use Rattle.mail_model.specs.Record.{Record}
use Rattle.object_model.specs.Said.{said}
use Rattle.object_model.specs.Letters.{ToldItem}
use Rattle.cluster_model.specs.Reads.{ListedCopy, copy_cmp}
use Rattle.login_model.specs.Facts.{copy_told}

-- a message of a listing, where this state says that the user's copy is here
abbrev pub copy_by : Id → State → ℕ → Option ListedCopy
copy_by id state size = if is_here state.value then Some (record { id = id; stamp = state.stamp; targets = state.targets; size = size }) else None

abbrev pub copy_if : Id → Option State → Option (List ℕ) → Option ListedCopy
copy_if id None octets = None
copy_if id (Some state) None = None
copy_if id (Some state) (Some octets) = copy_by id state (length octets)

-- the user's copy of a message, where the records say that it is here and have its octets
abbrev pub copy_of : List ℕ → List Record → Id → Option ListedCopy
copy_of user records id = copy_if id (said (Message user id) records) (octets_in id records)

abbrev pub with_copy : Option ListedCopy → List ListedCopy → List ListedCopy
with_copy None copies = copies
with_copy (Some copy) copies = copy ∷ copies

-- the copies of these messages that are here with their octets
abbrev pub copies_for : List ℕ → List Record → List Id → List ListedCopy
copies_for user records [] = []
copies_for user records (id ∷ ids) = with_copy (copy_of user records id) (copies_for user records ids)

-- which of two messages of a listing comes first
abbrev pub comes_first : ToldItem → ToldItem → Bool
comes_first item other = is_lt (copy_cmp (copy_told item) (copy_told other))

abbrev pub AreInOrder : List ToldItem → Type 0
AreInOrder items = IsSortedBy comes_first items
