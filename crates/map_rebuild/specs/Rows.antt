-- What a node remembers of its rows: versions, marks, and how many marks the last install made.
use Rattle.std.specs.Prelude.{◌≡◌, ℕ, ◌+◌, ◌-◌, ◌^◌, min, Bool, true, false, ◌&&◌, ◌||◌, nat_eq, List, length, take, Option, Some, None, if◌then◌else◌}
use Rattle.std.specs.Ordering.{nat_cmp}
use Rattle.std.specs.Cmp.Lexicographic.{slice_cmp}
use Rattle.std.specs.List.{filter, list_any}
use Rattle.std.specs.BTreeMap as tree
use Rattle.mail_model.specs.Identity.{EpochId}
use Rattle.object_model.specs.Keys.{is_same_epoch}
use Rattle.object_model.specs.Letters.{MapRow}
use Rattle.maps_model.specs.Rules.{set_at}
use Rattle.user_map.specs.Managers.{is_managed_by}
use Rattle.map_rebuild.specs.Users.{has_user}
use Rattle.map_rebuild.specs.declared.reports.Reports.{Reports}

abbrev pub version_at : Option ℕ → ℕ
version_at None = 0
version_at (Some version) = version

-- the version of the user's row, which is 0 where it never changed
abbrev pub version_of : Reports → List ℕ → ℕ
version_of reports user = version_at (tree.get (slice_cmp nat_cmp) reports.versions user)

-- the users that are marked
abbrev pub marked_users : Reports → List (List ℕ)
marked_users reports = reports.marked.keys

abbrev pub is_marked : Reports → List ℕ → Bool
is_marked reports user = has_user (marked_users reports) user

-- the epoch of the last install that marked, and how many marks it made
abbrev pub install_epoch : Reports → EpochId
install_epoch reports = reports.epoch

abbrev pub marks_of_install : Reports → ℕ
marks_of_install reports = reports.at_install

-- versions, marks and the count are as they were
pub record HasSameReports (old new : Reports) : Type 0 where
  pub versions : (user : List ℕ) → version_of new user ≡ version_of old user
  pub marks : (user : List ℕ) → is_marked new user ≡ is_marked old user
  pub epoch : install_epoch new ≡ install_epoch old
  pub count : marks_of_install new ≡ marks_of_install old

-- the versions are as they were
abbrev pub KeepsVersions : Reports → Reports → Type 0
KeepsVersions old new = (user : List ℕ) → version_of new user ≡ version_of old user

-- the marks are as they were
abbrev pub KeepsMarks : Reports → Reports → Type 0
KeepsMarks old new = (user : List ℕ) → is_marked new user ≡ is_marked old user

-- the user's version is this, and those of others are as they were
abbrev pub SetsVersion : Reports → Reports → List ℕ → ℕ → Type 0
SetsVersion old new user version = (other : List ℕ) → version_of new other ≡ set_at (version_of old) user version other

-- the user is marked, or is not, and the marks of others are as they were
abbrev pub SetsMark : Reports → Reports → List ℕ → Bool → Type 0
SetsMark old new user marked = (other : List ℕ) → is_marked new other ≡ set_at (is_marked old) user marked other

-- the user's mark is cleared, or all marks are as they were
abbrev pub ClearsMark : Bool → Reports → Reports → List ℕ → Type 0
ClearsMark cleared old new user = (other : List ℕ) → is_marked new other ≡ (if cleared then set_at (is_marked old) user false other else is_marked old other)

-- these users are marked beside those who were
abbrev pub MarksUsers : Reports → Reports → List (List ℕ) → Type 0
MarksUsers old new users = (user : List ℕ) → is_marked new user ≡ (is_marked old user || has_user users user)

-- whether the user is marked and its row is of that version
abbrev pub is_due_at : Reports → List ℕ → ℕ → Bool
is_due_at reports user version = is_marked reports user && nat_eq (version_of reports user) version

-- the count of the last install is as it was
abbrev pub KeepsCount : Reports → Reports → Type 0
KeepsCount old new = (install_epoch new ≡ install_epoch old) × (marks_of_install new ≡ marks_of_install old)

-- what an install of this epoch has counted so far: nothing before its first bucket
abbrev pub counted_before : EpochId → Reports → ℕ
counted_before epoch reports = if is_same_epoch (install_epoch reports) epoch then marks_of_install reports else 0

-- the marks that came to those that stood, on top of what was counted before, up to the greatest number of 64 bits
abbrev pub counted_after : EpochId → Reports → Reports → ℕ
counted_after epoch old new = min (counted_before epoch old + (length (marked_users new) - length (marked_users old))) (2 ^ 64 - 1)

-- the first marked users, in order of names and as many as are wanted, whom the node manages by the map
abbrev pub due_users : List MapRow → ℕ → ℕ → Reports → List (List ℕ)
due_users map node most reports = take most (filter (is_managed_by map node) (marked_users reports))

-- whether it manages one of them
abbrev pub is_any_due : List MapRow → ℕ → Reports → Bool
is_any_due map node reports = list_any (is_managed_by map node) (marked_users reports)

-- a user is marked whom it manages
pub record ManagesMarked (map : List MapRow) (node : ℕ) (reports : Reports) : Type 0 where
  pub user : List ℕ
  pub marked : is_marked reports user ≡ true
  pub managed : is_managed_by map node user ≡ true
