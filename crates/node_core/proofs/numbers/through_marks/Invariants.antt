use Rattle.std.proofs.Common.{◌≡◌, map, drop}
use Rattle.cluster_model.specs.Thrown.{count_through}
use Rattle.node_core.proofs.numbers.through_marks.Given as goal

abbrev pub invariant-loop-mark : goal.invariant-loop-mark
invariant-loop-mark l = count_through l.greatest (map (λ mark. mark.stamp) (drop l.mark-index l.marks)) ≡ count_through l.fn.count (map (λ mark. mark.stamp) l.marks)
