use Rattle.std.proofs.Common.{◌≡◌, Some, take}
use Rattle.object_model.specs.Letters.Body.{ListAsk}
use Rattle.cluster_model.specs.Rules.{letters_to}
use Rattle.node_reads.proofs.letters.ask_lists.Given as goal

abbrev pub invariant-loop-node : goal.invariant-loop-node
invariant-loop-node l = l.letters ≡ letters_to l.u.own l.u.epoch (Some l.u.number) (take l.node-index l.to) (ListAsk l.user)
