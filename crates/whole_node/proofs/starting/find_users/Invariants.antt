use Rattle.std.proofs.Common.{◌≡◌, ℕ, List, drop}
use Rattle.std.specs.Prelude.{◌&&◌, ◌||◌}
use Rattle.mail_model.specs.Identity.{Id}
use Rattle.mail_model.specs.Identity.Key.{Message}
use Rattle.mail_model.specs.Record.{Record}
use Rattle.object_model.specs.Said.{said}
use Rattle.cluster_model.specs.Reads.{is_here_held}
use Rattle.mailbox_fragment.specs.Here.{is_here_in}
use Rattle.map_rebuild.specs.Users.{has_user}
use Rattle.node_core.specs.Nodes.{NodeKeeps}
use Rattle.node_maps.specs.Nodes.{node_of, own_of}
use Rattle.whole_node.proofs.starting.find_users.Given as goal

-- with the users that are left these are all
abbrev pub invariant-loop-user : goal.invariant-loop-user
invariant-loop-user l = record {
  here : (records : List Record) → NodeKeeps records l.mail → (other : List ℕ) (id : Id)
      → (is_here_in l.maps.fragments other id || (has_user (drop l.user-index l.users) other && is_here_held (said (Message other id) records)))
      ≡ (is_here_in l.initial.maps.fragments other id || (has_user l.users other && is_here_held (said (Message other id) records)));
  node : node_of l.maps ≡ node_of l.initial.maps;
  own : own_of l.maps ≡ own_of l.initial.maps;
}
