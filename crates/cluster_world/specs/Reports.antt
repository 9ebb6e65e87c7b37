-- A node of the world that reports to another, as their manager, what it has of users.
use Rattle.std.specs.Prelude.{◌≡◌, ℕ, Bool, true, false, List, ⊤, MatchBool, None, Result, Ok, Err}
use Rattle.object_model.specs.Letters.{Letter}
use Rattle.whole_world.specs.Steps.{HasDue, HasNoneDue}
use Rattle.node_maps.specs.Nodes.{node_of}
use Rattle.whole_node.specs.Nodes.{HasMaps}
use Rattle.whole_node.specs.Reporting.{ReportsTo}
use Rattle.whole_node.specs.declared.node.WholeNode.{WholeNode}
use Rattle.cluster_world.specs.declared.life.Life.{Life}
use Rattle.cluster_world.specs.declared.life.Life.TheVariants.{Up}
use Rattle.cluster_world.specs.declared.fault.StepFault.{StepFault}
use Rattle.cluster_world.specs.declared.fault.StepFault.TheVariants.{NoRoom, NoMemory}

-- a node that is up, with its maps as they have to be
pub record IsUpMapped (life : Life) : Type 0 where
  pub node : WholeNode
  pub up : life ≡ Up node
  pub maps : HasMaps node

-- At a node that is up a row is due to that manager, or none is.
pub record OwesRowsAt (to : ℕ) (due : Bool) (life : Life) : Type 0 where
  pub node : WholeNode
  pub up : life ≡ Up node
  pub is : MatchBool due (HasDue node.mail.store.own to (node_of node.maps)) (HasNoneDue node.mail.store.own to (node_of node.maps))

-- A row is due, and there is no room for the letter of one; or that is not so.
pub record LacksRoomAt (to room : ℕ) (lacks : Bool) (life : Life) : Type 0 where
  pub node : WholeNode
  pub up : life ≡ Up node
  pub is : MatchBool lacks (HasDue node.mail.store.own to (node_of node.maps) × (room ≡ 0)) (room ≡ 0 → HasNoneDue node.mail.store.own to (node_of node.maps))

-- A node that is up tells the first rows that are due, as many as go at once and as there is room for. It stays as it is.
pub record ReportsAt (to room : ℕ) (letters : List Letter) (life : Life) : Type 0 where
  pub node : WholeNode
  pub up : life ≡ Up node
  pub reports : ReportsTo to room letters node

-- So it does, unless a row is due and there is no room for one letter; or memory runs out.
abbrev pub TellsRowsAt : ℕ → ℕ → Result (List Letter) StepFault → Life → Type 0
TellsRowsAt to room (Ok letters) life = LacksRoomAt to room false life × ReportsAt to room letters life
TellsRowsAt to room (Err NoRoom) life = LacksRoomAt to room true life
TellsRowsAt to room (Err (NoMemory None)) life = ⊤
TellsRowsAt to room (Err other) life = ⊥
