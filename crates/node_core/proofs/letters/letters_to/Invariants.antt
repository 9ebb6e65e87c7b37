use Rattle.std.proofs.Common.{◌≡◌, take}
use Rattle.mail_base.specs.Bodies.{body_seen}
use Rattle.cluster_model.specs.Rules.{letters_to}
use Rattle.node_core.proofs.letters.letters_to.Given as goal

abbrev pub invariant-loop-node : goal.invariant-loop-node
invariant-loop-node l = l.letters ≡ letters_to l.own l.epoch l.ticket (take l.node-index l.to) (body_seen l.body)
