use Rattle.std.proofs.Common.{List, drop}
use Rattle.std.specs.Prelude.{flat_map}
use Rattle.mail_model.specs.Record.{Record}
use Rattle.node_core.specs.Nodes.{NodeKeeps}
use Rattle.node_maps.specs.declared.maps.NodeMaps.{NodeMaps}
use Rattle.whole_node.specs.Noting.{NotesCopies, copies_confirmed}
use Rattle.whole_node.proofs.noting.note_wants.Given as goal

-- what is noted of the wants that are left is noted of all
abbrev pub invariant-loop-want : goal.invariant-loop-want
invariant-loop-want l =
    (records : List Record) → NodeKeeps records l.mail → (final : NodeMaps) → NotesCopies records (flat_map (copies_confirmed l.own) (drop l.want-index l.wants)) l.maps final
    → NotesCopies records (flat_map (copies_confirmed l.own) l.wants) l.initial.maps final
