-- What a node that is up owes of rows, as the whole node tells it.
use Rattle.std.proofs.Common.{◌≡◌, ℕ, Bool, true, false, List, Result, Ok, Err, refl, sym, true≢false}
use Rattle.std.specs.Prelude.{MatchBool, IfOk, IsTrue, ◌↔◌}
use Rattle.object_model.specs.Letters.{Letter}
use Rattle.maps_model.specs.Cluster as maps
use Rattle.whole_world.specs.Steps.{is_due, HasDue, HasNoneDue}
use Rattle.node_maps.specs.Nodes.{node_of}
use Rattle.whole_node.specs.Reporting.{ReportsTo}
use Rattle.whole_node.specs.declared.node.WholeNode.{WholeNode}
use Rattle.cluster_world.specs.Reports.{IsUpMapped, OwesRowsAt, LacksRoomAt, ReportsAt}
use Rattle.cluster_world.specs.declared.life.Life.{Life}
use Rattle.cluster_world.specs.declared.life.Life.TheVariants.{Up}

not_so : (b : Bool) → (b ≡ true → ⊥) → b ≡ false
not_so true never = absurd (never refl)
not_so false never = refl

due_or_none : (own to : ℕ) (node : maps.Node) (due : Bool) → (IsTrue due ↔ HasDue own to node) → MatchBool due (HasDue own to node) (HasNoneDue own to node)
due_or_none own to node true is = is.0 refl
due_or_none own to node false is = λ other user. not_so (is_due to node user) (λ due. true≢false (sym (is.1 (other, user, due))))

pub owes_rows : (to : ℕ) (life : Life) (node : WholeNode) → life ≡ Up node → (due : Bool) → (IsTrue due ↔ HasDue node.mail.store.own to (node_of node.maps)) → OwesRowsAt to due life
owes_rows to life node up due is = record { node = node; up = up; is = due_or_none node.mail.store.own to (node_of node.maps) due is }

pub reports_rows : {E : Type 0} (to room : ℕ) (life : Life) (node : WholeNode) → life ≡ Up node → (result : Result (List Letter) E) → IfOk result (λ letters. ReportsTo to room letters node)
    → IfOk result (λ letters. ReportsAt to room letters life)
reports_rows to room life node up (Ok letters) reports = record { node = node; up = up; reports = reports }
reports_rows to room life node up (Err why) reports = tt

-- Where there is room for a letter, none lacks it.
pub room_is_there : (to room : ℕ) (life : Life) → IsUpMapped life → (room ≡ 0 → ⊥) → LacksRoomAt to room false life
room_is_there to room life up some = record { node = up.node; up = up.up; is = λ none. absurd (some none) }

-- Where there is none, it is lacked as soon as a row is due.
pub no_room : (to room : ℕ) (due : Bool) (life : Life) → room ≡ 0 → OwesRowsAt to due life → LacksRoomAt to room due life
no_room to room true life none owes = record { node = owes.node; up = owes.up; is = (owes.is, none) }
no_room to room false life none owes = record { node = owes.node; up = owes.up; is = λ empty. owes.is }
