use Rattle.std.proofs.Common.{◌≡◌, take}
use Rattle.told_lists.proofs.join.items_of.Given as goal

abbrev pub invariant-loop-item : goal.invariant-loop-item
invariant-loop-item l = l.list ≡ take l.item-index l.items
