-- The rows that a node reports.
use Rattle.std.specs.Prelude.{◌≡◌, ◌<◌, ℕ, min, List, [], ◌++◌, length, All, Some, None}
use Rattle.mail_model.specs.Record.{Record}
use Rattle.object_model.specs.Lists.{Among}
use Rattle.object_model.specs.Letters.{Membership, Letter}
use Rattle.cluster_model.specs.Forms.{IsPlainMaps}
use Rattle.maps_model.specs.Rules as rules
use Rattle.map_rebuild.specs.Rows.{marked_users, due_users}
use Rattle.whole_model.specs.Whole.{maps_disk_of}
use Rattle.whole_model.specs.Rules.{promise_records}
use Rattle.whole_world.specs.Steps.{most_reports, HasDue}
use Rattle.whole_world.specs.Makes.{done_for_maps}
use Rattle.whole_world.specs.Reporting.{AreMarked}
use Rattle.node_maps.specs.Nodes.{node_of}
use Rattle.node_core.specs.Nodes.{NodeKeeps}
use Rattle.node_core.specs.Spelling.{AllCanBeTaken}
use Rattle.whole_node.specs.Nodes.{whole_seen}
use Rattle.whole_node.specs.Hearing.{FitsMaps}
use Rattle.whole_node.specs.declared.node.WholeNode.{WholeNode}

-- the first users whose rows are due to that node, as many as are sent at once and as there is room for
abbrev pub users_first : Membership → ℕ → ℕ → WholeNode → List (List ℕ)
users_first membership to room node = due_users membership.map to (min room most_reports) node.maps.reports

-- over these records their rows go out by the rule, and the node stays as it is
pub record ReportedBy (to room : ℕ) (membership : Membership) (letters : List Letter) (node : WholeNode) (records : List Record) : Type 0 where
  pub did : rules.Reaction
  pub reports : rules.Reports node.mail.store.own to (users_first membership to room node) (node_of node.maps) (maps_disk_of records) did
  pub left : record { node = whole_seen node; disk = records ++ promise_records None; out = letters } ≡ done_for_maps (whole_seen node) records did None did.out

-- Nothing goes to the node itself, nor where no epoch is installed. Else the first rows that are due go out, in order of names: some do where one is due and there is room.
pub record ReportsTo (to room : ℕ) (letters : List Letter) (node : WholeNode) : Type 0 where
  pub own : to ≡ node.mail.store.own → letters ≡ []
  pub without : (node_of node.maps).installed ≡ None → letters ≡ []
  pub sends : (to ≡ node.mail.store.own → ⊥) → (membership : Membership) → (node_of node.maps).installed ≡ Some membership
      → (records : List Record) → NodeKeeps records node.mail → ReportedBy to room membership letters node records
  pub marked : (to ≡ node.mail.store.own → ⊥) → (membership : Membership) → (node_of node.maps).installed ≡ Some membership → AreMarked (node_of node.maps) (marked_users node.maps.reports)
  pub some : HasDue node.mail.store.own to (node_of node.maps) → 0 < room → 0 < length letters
  pub plain : (letter : Letter) → Among letter letters → IsPlainMaps letter
  pub taken : AllCanBeTaken letters
  pub fits : All FitsMaps letters
