use Rattle.std.proofs.Common.{arith}
use Rattle.mail_model.specs.Names.{IsLowerName}
use Rattle.node_core.proofs.Lists.{one_more_all, all_of_taken}
use Rattle.node_core.proofs.spelling.are_names.Goals as goal

pub loop-name-preserved : goal.loop-name-preserved
loop-name-preserved c = one_more_all IsLowerName c.args.names.now c.loop-name.name-index c.name-item.result c.loop-name-test.true c.name-item.is c.loop-name.invariant c.is_name.ensures

pub returns : goal.returns
returns c = all_of_taken IsLowerName c.args.names.now c.loop-name.name-index (omega (arith, c.loop-name.auto.name-index-end, c.loop-name-test.false)) c.loop-name.invariant
