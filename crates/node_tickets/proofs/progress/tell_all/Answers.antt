use Rattle.mail_base.specs.Bodies.{body_seen}
use Rattle.cluster_model.specs.Rules.{told_want}
use Rattle.node_tickets.proofs.Writes.{written_next}
use Rattle.node_tickets.proofs.progress.tell_all.Goals as goal

pub loop-want-preserved : goal.loop-want-preserved
loop-want-preserved c =
    written_next (told_want (body_seen c.args.body.now) c.args.from) c.want-item.result
    c.deref_mut-want-items.result.now c.loop-want.want-items c.loop-want.want-index c.told.new.self c.loop-want-test.true c.loop-want.invariant c.told.ensures
