use Rattle.std.proofs.Common.{sym, ap, ◌∙◌}
use Rattle.object_model.specs.UpdateLog.{retired}
use Rattle.mail_base.specs.Seen.{key_seen}
use Rattle.replica_push.proofs.Logs.{emptied}
use Rattle.replica_push.proofs.acks.hear_ack.Goals as goal

pub returns-in-Emptied-clause-log : goal.returns-in-Emptied-clause-log
returns-in-Emptied-clause-log c =
    c.retire.ensures.log
    ∙ ap (retired (key_seen c.args.key.now) c.args.state.now) c.acknowledged.ensures.log
    ∙ emptied c.args.log.now (key_seen c.args.key.now) c.args.state.now c.args.by (sym c.acknowledged.ensures.answer ∙ c.in-Emptied.is)
