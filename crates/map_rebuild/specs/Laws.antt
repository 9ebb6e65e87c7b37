-- What the calls do to versions and marks is what the machine of membership does to them.
use Rattle.std.specs.Prelude.{◌≡◌, ◌≢◌, ◌⊎◌, ◌↔◌, ◌≤◌, ◌<◌, ◌+◌, ℕ, Bool, true, false, List, [], ◌∷◌, length, Some}
use Rattle.std.specs.List.{list_any}
use Rattle.mail_model.specs.Identity.{EpochId}
use Rattle.object_model.specs.Lists.{Among}
use Rattle.object_model.specs.Letters.{MapRow, Membership, Letter}
use Rattle.maps_model.specs.Cluster.{Node, Disk, manages, manages_in}
use Rattle.maps_model.specs.Rules as rules
use Rattle.map_rebuild.specs.Users.{has_user}
use Rattle.map_rebuild.specs.Rows.{version_of, is_marked, marked_users, install_epoch, marks_of_install, KeepsVersions, SetsVersion, SetsMark, ClearsMark, MarksUsers, is_due_at, counted_before, due_users, ManagesMarked}
use Rattle.map_rebuild.specs.declared.reports.Reports.{Reports}

-- the versions and marks of a node are those that stand here
pub record Remembers (reports : Reports) (node : Node) : Type 0 where
  pub versions : (user : List ℕ) → version_of reports user ≡ node.version user
  pub marks : (user : List ℕ) → is_marked reports user ≡ node.marked user

-- A user's row changes, and another node manages the user: it is marked.
abbrev pub ChangesAsMachine : Type 0
ChangesAsMachine = (own : ℕ) (node : Node) (disk : Disk) (user : List ℕ) (full : Bool) (old new : Reports) → Remembers old node → manages_in node.installed own user ≡ false
    → SetsVersion old new user (version_of old user + 1) → SetsMark old new user true
    → Remembers new (rules.change own node disk user full).node

-- The node manages the user itself: it is marked, and told at once. As the machine has it, it was not marked before.
abbrev pub TellsAsMachine : Type 0
TellsAsMachine = (own : ℕ) (node : Node) (disk : Disk) (user : List ℕ) (full : Bool) (old mid new : Reports) → Remembers old node → manages_in node.installed own user ≡ true → node.marked user ≡ false
    → SetsVersion old mid user (version_of old user + 1) → SetsMark old mid user true → KeepsVersions mid new → SetsMark mid new user false
    → Remembers new (rules.change own node disk user full).node

-- an acknowledgement of the node's epoch
abbrev pub AcknowledgesAsMachine : Type 0
AcknowledgesAsMachine = (node : Node) (disk : Disk) (letter : Letter) (user : List ℕ) (version : ℕ) (result : Bool) (old new : Reports) → Remembers old node
    → (membership : Membership) → node.installed ≡ Some membership → membership.epoch ≡ letter.epoch
    → result ≡ is_due_at old user version → ClearsMark result old new user → KeepsVersions old new
    → (did : rules.Reaction) × rules.HearsAck node disk letter user version did × Remembers new did.node

-- the first that are due, as many as are wanted, may be reported
abbrev pub ReportsAsMachine : Type 0
ReportsAsMachine = (own to most : ℕ) (node : Node) (disk : Disk) (reports : Reports) (membership : Membership) → Remembers reports node → node.installed ≡ Some membership → to ≢ own
    → (did : rules.Reaction) × rules.Reports own to (due_users membership.map to most reports) node disk did × Remembers reports did.node

-- the users of some buckets are marked, a bucket at a time, at an install of this epoch
pub record MarksBucket (epoch : EpochId) (users : List (List ℕ)) (old new : Reports) : Type 0 where
  pub marks : MarksUsers old new users
  pub versions : KeepsVersions old new
  pub noted : install_epoch new ≡ epoch
  pub bound : marks_of_install new ≤ counted_before epoch old + length users

abbrev pub MarksBuckets : EpochId → List (List (List ℕ)) → Reports → Reports → Type 0
MarksBuckets epoch [] old new = new ≡ old
MarksBuckets epoch (users ∷ more) old new = (mid : Reports) × MarksBucket epoch users old mid × MarksBuckets epoch more mid new

abbrev pub is_in_bucket : List (List (List ℕ)) → List ℕ → Bool
is_in_bucket buckets user = list_any (λ users. has_user users user) buckets

abbrev pub users_in : List (List (List ℕ)) → ℕ
users_in [] = 0
users_in (users ∷ more) = length users + users_in more

-- users are told, one after another
abbrev pub TellsUsers : List (List ℕ) → Reports → Reports → Type 0
TellsUsers [] old new = new ≡ old
TellsUsers (user ∷ more) old new = (mid : Reports) × (SetsMark old mid user false × KeepsVersions old mid) × TellsUsers more mid new

-- whether a user is marked at an install: the node holds a message of it, and it is not spared
abbrev pub IsNamed : Node → Disk → Membership → List ℕ → Bool → Type 0
IsNamed node disk membership user true = (disk.holds user ≡ true) × (rules.IsSpared node membership user → ⊥)
IsNamed node disk membership user false = (disk.holds user ≡ false) ⊎ rules.IsSpared node membership user

-- At an install those are marked who are named, and then those are told whom the node manages and who are marked: just the marks are left that the machine leaves.
abbrev pub InstallsAsMachine : Type 0
InstallsAsMachine = (own : ℕ) (node : Node) (disk : Disk) (membership : Membership) (buckets : List (List (List ℕ))) (told : List (List ℕ)) (old mid new : Reports) → Remembers old node
    → MarksBuckets membership.epoch buckets old mid → TellsUsers told mid new
    → ((user : List ℕ) → IsNamed node disk membership user (is_in_bucket buckets user))
    → ((user : List ℕ) → has_user told user ≡ true → manages membership own user ≡ true)
    → ((user : List ℕ) → manages membership own user ≡ true → is_marked mid user ≡ true → has_user told user ≡ true)
    → (user : List ℕ) → rules.MarkAt own node disk membership user (is_marked new user) × (version_of new user ≡ node.version user)

-- An install of a new epoch counts at most as many marks as users are named to it.
abbrev pub InstallsCountAtMost : Type 0
InstallsCountAtMost = (epoch : EpochId) (buckets : List (List (List ℕ))) (old new : Reports) → install_epoch old ≢ epoch → MarksBuckets epoch buckets old new
    → counted_before epoch new ≤ users_in buckets

-- The marked users are just those who are marked,
abbrev pub MarkedAreListed : Type 0
MarkedAreListed = (reports : Reports) (user : List ℕ) → (is_marked reports user ≡ true) ↔ Among user (marked_users reports)

-- and where a row is due and some are wanted, some are given.
abbrev pub DueAreGiven : Type 0
DueAreGiven = (map : List MapRow) (node most : ℕ) (reports : Reports) → ManagesMarked map node reports → 0 < most → 0 < length (due_users map node most reports)
