use Rattle.std.proofs.Common.{◌≡◌, drop}
use Rattle.std.specs.List.{list_all}
use Rattle.told_lists.specs.Joining.{is_of_node}
use Rattle.told_lists.proofs.join.are_of_nodes.Given as goal

abbrev pub invariant-loop-list : goal.invariant-loop-list
invariant-loop-list l = list_all is_of_node l.told ≡ list_all is_of_node (drop l.list-index l.told)
