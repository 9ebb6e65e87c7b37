use Rattle.std.proofs.Common.{Option, subst, refl, arith}
use Rattle.std.proofs.lemmas.Result.{err_from_is_err_and}
use Rattle.mail_model.specs.Identity.{State}
use Rattle.mail_base.specs.Seen.{key_seen}
use Rattle.disk_journal.specs.Journal.{end_of}
use Rattle.replica_push.specs.Rules.{records_of}
use Rattle.node_store.specs.Disks.{view_of}
use Rattle.node_store.specs.Appends.{AppendsRecords, StopsWithin}
use Rattle.node_store.proofs.Journals.{none_stops}
use Rattle.node_store.proofs.Taking.{news_objects, take_done, take_stopped}
use Rattle.node_store.proofs.store.NodeStore.take.Goals as goal

pub returns-in_err-news-clause-wrote : goal.returns-in_err-news-clause-wrote
returns-in_err-news-clause-wrote g c =
    let on = view_of g.D.Disk.seen g.D.Disk.faults g.D.Disk.clock in
    let p = err_from_is_err_and c.from_residual.result c.from_residual.ensures.1 in
    rw (p.1, p.2) (
      take_stopped on (key_seen c.args.key.now) c.args.state.now c.args.self.now c.args.disk.now c.args.disk.now
          (none_stops on c.args.disk.now (end_of c.args.self.now.journal) _),
      omega arith,
    )

pub record_news-requires-clause-object : goal.record_news-requires-clause-object
record_news-requires-clause-object g c =
    news_objects (key_seen c.args.key.now) c.args.state.now c.args.self.now.objects c.in_ok-news.news c.requires.sound.objects c.requires.object c.in_ok-news.ensures.answer

pub returns-in_err-record_news-clause-wrote : goal.returns-in_err-record_news-clause-wrote
returns-in_err-record_news-clause-wrote g c =
    let on = view_of g.D.Disk.seen g.D.Disk.faults g.D.Disk.clock in
    let p = err_from_is_err_and c.from_residual-in_err-record_news.result c.from_residual-in_err-record_news.ensures.1 in
    let w = c.in_err-record_news.ensures.written in
    let stops = subst (λ (n : Option State). StopsWithin on c.args.disk.now c.record_news.new.disk (end_of c.args.self.now.journal) (records_of c.args.self.now.own (key_seen c.args.key.now) n))
    c.in_ok-news.ensures.answer w.0 in
    rw (p.1, p.2) (take_stopped on (key_seen c.args.key.now) c.args.state.now c.args.self.now c.args.disk.now c.record_news.new.disk stops, w.1)

pub returns-clause-wrote : goal.returns-clause-wrote
returns-clause-wrote g c =
    let on = view_of g.D.Disk.seen g.D.Disk.faults g.D.Disk.clock in
    let appends = subst (λ (n : Option State). AppendsRecords on c.args.disk.now c.record_news.new.disk (end_of c.args.self.now.journal) (end_of c.record_news.new.journal)
    (records_of c.args.self.now.own (key_seen c.args.key.now) n)) c.in_ok-news.ensures.answer c.in_ok-record_news.ensures.written in
    take_done on (key_seen c.args.key.now) c.args.state.now c.args.self.now c.args.disk.now c.record_news.new.disk _ c.requires.sound c.requires.object refl refl
    c.in_ok-news.ensures.table c.in_ok-news.ensures.log appends
