use Rattle.std.proofs.Common.{◌≡◌, ◌++◌, drop}
use Rattle.told_lists.specs.Joining.{all_told}
use Rattle.told_lists.proofs.join.all_told.Given as goal

abbrev pub invariant-loop-list : goal.invariant-loop-list
invariant-loop-list l = l.items.items ++ all_told (drop l.list-index l.told) ≡ all_told l.told
