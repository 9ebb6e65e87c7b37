use Rattle.std.proofs.Common.{◌≡◌, map, take}
use Rattle.node_core.proofs.letters.ids_of.Given as goal

abbrev pub invariant-loop-mark : goal.invariant-loop-mark
invariant-loop-mark l = l.ids ≡ map (λ mark. mark.id) (take l.mark-index l.marks)
