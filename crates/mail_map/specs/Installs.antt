-- Which rows an install keeps.
use Rattle.std.specs.Prelude.{ℕ, Bool, false, ◌&&◌, nat_eq, List, Option, Some, None, if◌then◌else◌}
use Rattle.mail_model.specs.Identity.{EpochId}
use Rattle.object_model.specs.Keys.{is_same_epoch}
use Rattle.object_model.specs.Letters.{Member, MapRow}
use Rattle.maps_model.specs.Cluster.{member_of}
use Rattle.user_map.specs.Managers.{is_managed_by}
use Rattle.mail_map.specs.Rows.{Rows}

-- whether the node managed the user by the map that it had, if any
abbrev pub was_managed_by : Option (List MapRow) → ℕ → List ℕ → Bool
was_managed_by None node user = false
was_managed_by (Some map) node user = is_managed_by map node user

abbrev pub comes_from : Option Member → ℕ → EpochId → Bool
comes_from None boot was = false
comes_from (Some member) boot was = nat_eq member.boot boot && is_same_epoch member.was was

-- whether the node is a member in that boot and comes from that epoch
abbrev pub comes : List Member → ℕ → ℕ → EpochId → Bool
comes members n boot was = comes_from (member_of members n) boot was

-- A row stays where the manager has the user in its old and its new map, and the row's node is a member in the same boot that comes from the manager's own old epoch.
abbrev pub stays : ℕ → Option (List MapRow) → List MapRow → EpochId → List Member → ℕ → ℕ → List ℕ → Bool
stays own old new was members n boot user = (was_managed_by old own user && is_managed_by new own user) && comes members n boot was

-- the rows that an install leaves
abbrev pub kept_rows : ℕ → Option (List MapRow) → List MapRow → EpochId → List Member → Rows → Rows
kept_rows own old new was members rows n boot user = if stays own old new was members n boot user then rows n boot user else None
