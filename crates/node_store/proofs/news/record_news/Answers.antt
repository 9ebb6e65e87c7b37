use Rattle.disk_journal.specs.Journal.{end_of}
use Rattle.node_store.specs.Disks.{view_of}
use Rattle.node_store.proofs.Journals.{none_appended}
use Rattle.node_store.proofs.news.record_news.Goals as goal

pub returns-in-None-clause-written : goal.returns-in-None-clause-written
returns-in-None-clause-written g c =
    rw c.in-None.is (none_appended (view_of g.D.Disk.seen g.D.Disk.faults g.D.Disk.clock) c.args.disk.now (end_of c.args.journal.now) c.requires.gate)
