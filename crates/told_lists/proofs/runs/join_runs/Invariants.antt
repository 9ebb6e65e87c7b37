use Rattle.std.proofs.Common.{◌≡◌, ◌++◌, drop}
use Rattle.told_lists.specs.Joining.{runs}
use Rattle.told_lists.proofs.runs.join_runs.Given as goal

abbrev pub invariant-loop-item : goal.invariant-loop-item
invariant-loop-item l = l.list.items ++ runs l.current (drop l.item-index l.rest) ≡ runs l.first l.rest
