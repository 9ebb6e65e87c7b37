use Rattle.std.proofs.Common.{length, ap, arith}
use Rattle.std.proofs.lemmas.List.{length-take}
use Rattle.node_core.proofs.Everyone.{length-turned}
use Rattle.node_core.proofs.targets.deliver_targets.Goals as goal

pub returns-clause-some : goal.returns-clause-some
returns-clause-some c = λ some. c.set_of.ensures.some (omega (
  arith,
  some,
  length-take c.min-count.result c.deref.result.now,
  c.min-count.ensures,
  c.from.ensures,
  c.len.ensures,
  ap length c.deref.ensures.value,
  ap length c.in_ok-list.ensures,
  length-turned c.first_position.result c.args.members.now c.first_position.ensures.bound,
  c.requires.some,
))
