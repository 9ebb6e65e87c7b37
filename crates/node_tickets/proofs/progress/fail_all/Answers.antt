use Rattle.cluster_model.specs.Rules.{failed_want}
use Rattle.node_tickets.proofs.Writes.{written_next}
use Rattle.node_tickets.proofs.progress.fail_all.Goals as goal

pub loop-want-preserved : goal.loop-want-preserved
loop-want-preserved c =
    written_next (failed_want c.args.at) c.want-item.result
    c.deref_mut-want-items.result.now c.loop-want.want-items c.loop-want.want-index c.fail.new.self c.loop-want-test.true c.loop-want.invariant c.fail.ensures
