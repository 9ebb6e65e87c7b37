use Rattle.std.proofs.Common.{◌≡◌, ◌≤◌}
use Rattle.object_model.specs.Sets.{count_below}
use Rattle.mail_base.proofs.node_set.NodeSet.count.Given as goal

abbrev pub invariant-loop-at : goal.invariant-loop-at
invariant-loop-at l = record { counted : l.count ≡ count_below l.self-inside.word l.at; few : l.count ≤ l.at }
