use Rattle.std.proofs.Common.{◌∷◌, [], ◌∙◌, arith, append-nil}
use Rattle.std.proofs.lemmas.Result.{err_from_is_err_and}
use Rattle.mail_model.specs.Record.Record.{Promise}
use Rattle.disk_journal.specs.Journal.{end_of}
use Rattle.node_store.specs.Disks.{view_of}
use Rattle.node_store.proofs.Journals.{none_stops}
use Rattle.node_store.proofs.news.record_promise.Goals as goal

pub returns-in_err-payload-clause-written : goal.returns-in_err-payload-clause-written
returns-in_err-payload-clause-written g c =
    let p = err_from_is_err_and c.from_residual.result c.from_residual.ensures.1 in
    rw (p.1, p.2) (none_stops (view_of g.D.Disk.seen g.D.Disk.faults g.D.Disk.clock) c.args.disk.now (end_of c.args.journal.now) (Promise c.args.epoch ∷ []), omega arith)

pub returns-clause-written : goal.returns-clause-written
returns-clause-written g c =
    c.in_ok-append_record.ensures.written (Promise c.args.epoch)
    (append-nil c.deref.result.now ∙ c.deref.ensures.value ∙ c.in_ok-payload.ensures.spelt)
