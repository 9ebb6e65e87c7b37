use Rattle.std.proofs.Common.{◌≡◌, ◌++◌, take, drop, map}
use Rattle.cluster_model.specs.Rules.{failed_want}
use Rattle.node_tickets.proofs.progress.fail_all.Given as goal

abbrev pub invariant-loop-want : goal.invariant-loop-want
invariant-loop-want l = l.want-items ≡ map (failed_want l.fn.at) (take l.want-index l.initial.want-items) ++ drop l.want-index l.initial.want-items
