-- A node that owes nobody anything.
use Rattle.std.specs.Prelude.{◌≡◌, ℕ, Bool, false, not, ◌&&◌, nat_eq, List, length}
use Rattle.map_rebuild.specs.Rows.{marked_users}
use Rattle.whole_model.specs.Whole as whole
use Rattle.node_core.specs.Nodes.{node_seen}
use Rattle.node_core.specs.Owing.{owes_another, OwesAnother}
use Rattle.whole_node.specs.declared.node.WholeNode.{WholeNode}

-- no user is marked
abbrev pub has_no_marks : WholeNode → Bool
has_no_marks node = nat_eq (length (marked_users node.maps.reports)) 0

abbrev pub owes_nobody : WholeNode → Bool
owes_nobody node = not (owes_another node.mail.store.own (node_seen node.mail)) && has_no_marks node

-- The same in words: no entry of its log has another member of its epoch remaining, and no row of it is due.
pub record OwesNobody (own : ℕ) (node : whole.Node) : Type 0 where
  pub log : OwesAnother own node.mail → ⊥
  pub unmarked : (user : List ℕ) → node.maps.marked user ≡ false
