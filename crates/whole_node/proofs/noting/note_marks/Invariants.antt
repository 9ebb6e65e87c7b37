use Rattle.std.proofs.Common.{List, map, drop}
use Rattle.mail_model.specs.Record.{Record}
use Rattle.node_core.specs.Nodes.{NodeKeeps}
use Rattle.node_maps.specs.declared.maps.NodeMaps.{NodeMaps}
use Rattle.whole_node.specs.Noting.{NotesCopies}
use Rattle.whole_node.proofs.noting.note_marks.Given as goal

-- what is noted of the marks that are left is noted of all
abbrev pub invariant-loop-mark : goal.invariant-loop-mark
invariant-loop-mark l =
    (records : List Record) → NodeKeeps records l.mail → (final : NodeMaps) → NotesCopies records (map (λ mark. (l.user, mark.id)) (drop l.mark-index l.marks)) l.maps final
    → NotesCopies records (map (λ mark. (l.user, mark.id)) l.marks) l.initial.maps final
