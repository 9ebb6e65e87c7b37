use Rattle.std.proofs.Common.{List, map, drop}
use Rattle.mail_model.specs.Record.{Record}
use Rattle.node_core.specs.Nodes.{NodeKeeps}
use Rattle.node_maps.specs.declared.maps.NodeMaps.{NodeMaps}
use Rattle.whole_node.specs.Noting.{NotesCopies}
use Rattle.whole_node.proofs.noting.note_users.Given as goal

-- what is noted of the users that are left is noted of all
abbrev pub invariant-loop-user : goal.invariant-loop-user
invariant-loop-user l =
    (records : List Record) → NodeKeeps records l.mail → (final : NodeMaps) → NotesCopies records (map (λ user. (user, l.id)) (drop l.user-index l.users)) l.maps final
    → NotesCopies records (map (λ user. (user, l.id)) l.users) l.initial.maps final
