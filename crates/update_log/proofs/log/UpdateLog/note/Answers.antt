use Rattle.std.proofs.lemmas.Result.{on_ok_weaker}
use Rattle.update_log.proofs.Writes.{noted_is}
use Rattle.update_log.proofs.log.UpdateLog.note.Goals as goal

pub returns-clause-ok : goal.returns-clause-ok
returns-clause-ok c = on_ok_weaker c.put.result
    (λ up. noted_is _ _ c.args.self.now c.args.key.now _ c.args.own c.args.state.now _ _ c.self.view_is c.in_ok-copy-2.ensures c.in_ok-copy.ensures.same c.new-entry.ensures up) c.put.ensures.ok
