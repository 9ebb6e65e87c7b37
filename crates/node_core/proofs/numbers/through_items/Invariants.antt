use Rattle.std.proofs.Common.{◌≡◌, map, drop}
use Rattle.cluster_model.specs.Thrown.{count_through}
use Rattle.node_core.proofs.numbers.through_items.Given as goal

abbrev pub invariant-loop-item : goal.invariant-loop-item
invariant-loop-item l = count_through l.greatest (map (λ item. item.stamp) (drop l.item-index l.items)) ≡ count_through l.fn.count (map (λ item. item.stamp) l.items)
