-- What entering a membership makes of rows, and which are then due.
use Rattle.std.specs.Prelude.{◌≡◌, ℕ, Bool, false, not, ◌&&◌, nat_eq, List, Option, Some, None, if◌then◌else◌}
use Rattle.mail_model.specs.Identity.{EpochId}
use Rattle.object_model.specs.Keys.{is_same_epoch}
use Rattle.object_model.specs.Letters.{Member, Membership, Row}
use Rattle.maps_model.specs.Cluster.{Node, Disk, NamesNode, manager_of, member_of}
use Rattle.maps_model.specs.Rules.{Entering}
use Rattle.membership.specs.Groups.{Group, node_of_group}
use Rattle.mail_map.specs.Rows.{Rows, rows_of}
use Rattle.mail_map.specs.declared.map.MailMap.{MailMap}
use Rattle.map_rebuild.specs.Users.{has_user}
use Rattle.map_rebuild.specs.Rows.{version_of, is_marked, KeepsVersions}
use Rattle.map_rebuild.specs.declared.reports.Reports.{Reports}
use Rattle.mailbox_fragment.specs.Here.{is_empty}
use Rattle.mailbox_fragment.specs.declared.fragments.Fragments.{Fragments}
use Rattle.node_maps.specs.declared.maps.NodeMaps.{NodeMaps}

-- whether the member, if there is one, comes from the epoch
abbrev pub came_from : Option Member → EpochId → Bool
came_from None epoch = false
came_from (Some member) epoch = is_same_epoch member.was epoch

-- whether both are one manager, who comes from that epoch
abbrev pub is_one_manager : List Member → EpochId → Option ℕ → Option ℕ → Bool
is_one_manager members epoch None after = false
is_one_manager members epoch (Some before) None = false
is_one_manager members epoch (Some before) (Some after) = nat_eq before after && came_from (member_of members before) epoch

-- whether the user's manager stays, and comes from the node's own old epoch
abbrev pub is_kept_by : Membership → Membership → List ℕ → Bool
is_kept_by old new user = is_one_manager new.members old.epoch (manager_of old user) (manager_of new user)

abbrev pub is_spared : Option Membership → Membership → List ℕ → Bool
is_spared None new user = false
is_spared (Some old) new user = is_kept_by old new user

-- rows once the node told its own of these users
abbrev pub told_in : ℕ → ℕ → (List ℕ → Row) → List (List ℕ) → Rows → Rows
told_in own boot row users rows n b user = if nat_eq n own && nat_eq b boot && has_user users user then Some (row user) else rows n b user

-- The rows that are left, and which are due, are those of the machine, for any node of that group that is named in its boot.
pub record Enters (own boot : ℕ) (old : Option Membership) (new : Membership) (fragments : Fragments) (rows : MailMap) (reports : Reports) (told : MailMap) (left : Reports) : Type 0 where
  pub entering : (group : Group) → group.boot ≡ boot → group.installed ≡ old → NamesNode new own boot → (disk : Disk) → ((user : List ℕ) → disk.holds user ≡ not (is_empty fragments user))
      → Entering own (node_of_group group (version_of reports) (is_marked reports) (rows_of rows)) disk new (is_marked left) (rows_of told)
  pub versions : KeepsVersions reports left

abbrev pub EntersAs : Option Membership → Membership → NodeMaps → NodeMaps → Type 0
EntersAs before membership old new =
    Enters old.group.own old.group.boot before membership old.fragments old.rows old.reports new.rows new.reports × (new.group ≡ old.group) × (new.fragments ≡ old.fragments)
