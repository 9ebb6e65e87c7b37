use Rattle.std.proofs.Common.{ap, ◌∙◌}
use Rattle.object_model.specs.UpdateLog.{retired}
use Rattle.mail_base.specs.Seen.{key_seen}
use Rattle.replica_push.proofs.Logs.{noted_back}
use Rattle.replica_push.proofs.pushes.note_taken.Goals as goal

pub returns-in-Err-clause-log_err : goal.returns-in-Err-clause-log_err
returns-in-Err-clause-log_err c =
    c.retire.ensures.log
    ∙ ap (retired (key_seen c.args.key.now) c.args.state) c.in_ok-note.ensures.ok
    ∙ noted_back c.args.log.now (key_seen c.args.key.now) c.args.own c.args.state c.requires.none
