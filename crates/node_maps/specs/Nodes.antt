-- The node of the machine that the parts of a node make up, and what its disk has to say for it.
use Rattle.std.specs.Prelude.{◌≡◌, ℕ, ◌+◌, Bool, false, not, nat_eq, List, [], ◌∷◌, flat_map, Option, Some, None, if◌then◌else◌}
use Rattle.mail_model.specs.Identity.{EpochId}
use Rattle.object_model.specs.Keys.{is_same_epoch}
use Rattle.object_model.specs.Letters.{Member, Membership, Row, Letter}
use Rattle.object_model.specs.Letters.Body.{Install}
use Rattle.maps_model.specs.Cluster.{Node, Disk}
use Rattle.maps_model.specs.Rules.{letter_to}
use Rattle.membership.specs.Groups.{node_of_group}
use Rattle.map_rebuild.specs.Rows.{version_of, is_marked}
use Rattle.map_rebuild.specs.declared.reports.Reports.{Reports}
use Rattle.mail_map.specs.Rows.{rows_of}
use Rattle.mailbox_fragment.specs.Here.{is_empty}
use Rattle.mailbox_fragment.specs.declared.fragments.Fragments.{Fragments}
use Rattle.node_maps.specs.declared.maps.NodeMaps.{NodeMaps}

abbrev pub node_of : NodeMaps → Node
node_of maps = node_of_group maps.group (version_of maps.reports) (is_marked maps.reports) (rows_of maps.rows)

abbrev pub own_of : NodeMaps → ℕ
own_of maps = maps.group.own

-- whether the node holds a message of the user
abbrev pub holds_in : NodeMaps → List ℕ → Bool
holds_in maps user = not (is_empty maps.fragments user)

-- the disk holds messages of the same users
pub record IsDisk (maps : NodeMaps) (disk : Disk) : Type 0 where
  pub holds : (user : List ℕ) → disk.holds user ≡ holds_in maps user

-- the machine sees the same node, and the same messages are here
pub record KeepsNode (old new : NodeMaps) : Type 0 where
  pub own : own_of new ≡ own_of old
  pub node : node_of new ≡ node_of old
  pub held : new.fragments ≡ old.fragments

-- what the node says of a user, by its versions and by the messages that are here
abbrev pub row_of : ℕ → ℕ → Reports → Fragments → List ℕ → Row
row_of own boot reports fragments user = record { user = user; node = own; boot = boot; version = version_of reports user; full = not (is_empty fragments user); profile = None }

-- whether a membership that is installed is of that epoch
abbrev pub is_within : Option Membership → EpochId → Bool
is_within None epoch = false
is_within (Some membership) epoch = is_same_epoch membership.epoch epoch

-- an Install for each of these members but the own node
abbrev pub installs_to : ℕ → Membership → List Member → List Letter
installs_to own membership members = flat_map (λ member. if nat_eq member.node own then [] else letter_to own (Install membership) member.node ∷ []) members
