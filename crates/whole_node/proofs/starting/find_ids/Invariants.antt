use Rattle.std.proofs.Common.{◌≡◌, ℕ, List, drop}
use Rattle.std.specs.Prelude.{◌&&◌, ◌||◌}
use Rattle.std.specs.Ordering.{nat_cmp, eq_by_cmp}
use Rattle.std.specs.Cmp.Lexicographic.{slice_cmp}
use Rattle.mail_model.specs.Identity.{Id}
use Rattle.mailbox_fragment.specs.Here.{is_here_in, has_id}
use Rattle.node_maps.specs.Nodes.{node_of, own_of}
use Rattle.whole_node.proofs.starting.find_ids.Given as goal

-- with the messages that are left these are all
abbrev pub invariant-loop-id : goal.invariant-loop-id
invariant-loop-id l = record {
  here : (other : List ℕ) (id : Id) → (is_here_in l.maps.fragments other id || (eq_by_cmp (slice_cmp nat_cmp) l.user other && has_id (drop l.id-index l.ids) id))
      ≡ (is_here_in l.initial.maps.fragments other id || (eq_by_cmp (slice_cmp nat_cmp) l.user other && has_id l.ids id));
  node : node_of l.maps ≡ node_of l.initial.maps;
  own : own_of l.maps ≡ own_of l.initial.maps;
}
