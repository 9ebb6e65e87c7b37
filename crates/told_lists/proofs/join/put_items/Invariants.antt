use Rattle.std.proofs.Common.{◌≡◌, ◌++◌, drop, map}
use Rattle.told_lists.specs.Joining.{told_by}
use Rattle.told_lists.proofs.join.put_items.Given as goal

abbrev pub invariant-loop-item : goal.invariant-loop-item
invariant-loop-item l = l.items.items ++ map (told_by l.node) (drop l.item-index l.told) ≡ l.initial.items.items ++ map (told_by l.node) l.told
