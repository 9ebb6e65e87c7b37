use Rattle.std.proofs.Common.{◌≡◌, ◌++◌, drop}
use Rattle.std.specs.List.{filter}
use Rattle.object_model.specs.Sets.{has}
use Rattle.node_core.proofs.nodes.those_in.Given as goal

abbrev pub invariant-loop-node : goal.invariant-loop-node
invariant-loop-node l = l.list.items ++ filter (λ m. has l.set m) (drop l.node-index l.nodes) ≡ filter (λ m. has l.set m) l.nodes
