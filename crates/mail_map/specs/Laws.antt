-- What stands of rows, whatever was told, and that members are named and rows kept as in the machine of membership.
use Rattle.std.specs.Prelude.{◌≡◌, ◌↔◌, ◌≤◌, ◌<◌, ◌&&◌, nat_eq, ℕ, Bool, IsTrue, List, [], ◌∷◌, ◌++◌, Option, Some, None}
use Rattle.std.specs.List.{filter, list_any}
use Rattle.std.specs.Cmp.Lexicographic.{pointwise}
use Rattle.object_model.specs.Lists.{Among}
use Rattle.object_model.specs.Letters.{Row, Member, MapRow, Membership}
use Rattle.maps_model.specs.Cluster.{Node, Disk, epoch_of, NamesNode, manager_of}
use Rattle.maps_model.specs.Laws.{named}
use Rattle.maps_model.specs.Rules.{IsRowKept, IsRowDue, RowAt}
use Rattle.mail_map.specs.Rows.{Rows, told_row, is_named}
use Rattle.mail_map.specs.Installs.{stays, kept_rows}

-- the rows once these were told, one after another
abbrev pub told_all : List Row → Rows → Rows
told_all [] rows = rows
told_all (row ∷ more) rows = told_all more (told_row row rows)

abbrev pub no_rows : Rows
no_rows n boot user = None

-- whether the row is of this node, boot and user
abbrev pub is_row_of : ℕ → ℕ → List ℕ → Row → Bool
is_row_of n boot user row = nat_eq n row.node && nat_eq boot row.boot && pointwise nat_eq user row.user

-- One of these: none before it is of a greater version, and all after it are of lesser ones.
pub record IsLatestRow (rows : List Row) (latest : Row) : Type 0 where
  pub before : List Row
  pub after : List Row
  pub split : rows ≡ before ++ latest ∷ after
  pub not_above : (row : Row) → Among row before → row.version ≤ latest.version
  pub below : (row : Row) → Among row after → row.version < latest.version

-- the row of greatest version, the later told among equals
abbrev pub IsLatestOf : List Row → Option Row → Type 0
IsLatestOf rows None = rows ≡ []
IsLatestOf rows (Some latest) = IsLatestRow rows latest

-- whatever was told, the latest row of each node, boot and user stands
abbrev pub LatestStands : Type 0
LatestStands = (rows : List Row) (n boot : ℕ) (user : List ℕ) → IsLatestOf (filter (is_row_of n boot user) rows) (told_all rows no_rows n boot user)

-- those are named whom the machine names
abbrev pub NamesAsMachine : Type 0
NamesAsMachine = (node : Node) (user : List ℕ) (members : List Member) (n : ℕ) → is_named node.rows user members n ≡ list_any (nat_eq n) (named node user members)

-- the map that a node has, if it has installed one
abbrev pub map_in : Option Membership → Option (List MapRow)
map_in None = None
map_in (Some membership) = Some membership.map

-- an install keeps just the rows that the machine keeps
abbrev pub KeepsAsMachine : Type 0
KeepsAsMachine = (own : ℕ) (node : Node) (membership : Membership) (n boot : ℕ) (user : List ℕ)
    → IsTrue (stays own (map_in node.installed) membership.map (epoch_of node) membership.members n boot user) ↔ IsRowKept own node membership n boot user

-- What it leaves is what the machine leaves, but for the row that the node then tells anew as the user's manager.
abbrev pub InstallsAsMachine : Type 0
InstallsAsMachine = (own : ℕ) (node : Node) (disk : Disk) (membership : Membership) → NamesNode membership own node.boot → (n boot : ℕ) (user : List ℕ)
    → (n ≡ own → boot ≡ node.boot → manager_of membership user ≡ Some own → IsRowDue node disk membership user → ⊥)
    → RowAt own node disk membership n boot user (kept_rows own (map_in node.installed) membership.map (epoch_of node) membership.members node.rows n boot user)
