use Rattle.std.proofs.Common.{refl, sym, ap, subst, ◌∙◌, Bool}
use Rattle.mail_base.specs.Seen.{key_seen}
use Rattle.update_log.specs.declared.logged.Acked.{Acked}
use Rattle.replica_push.specs.Acks.{after_ack}
use Rattle.disk_journal.specs.Journal.{end_of}
use Rattle.node_store.specs.Disks.{view_of}
use Rattle.node_store.specs.Appends.{AppendsRecords}
use Rattle.node_store.specs.Changes.{acked_by, is_emptied, retired_where}
use Rattle.node_store.specs.Keeps.{HoldsLogged}
use Rattle.node_store.proofs.Logged.{acked_logged}
use Rattle.node_store.proofs.Silent.{retired_done, acked_adds}
use Rattle.node_store.proofs.store.NodeStore.acknowledged.Goals as goal

pub returns-clause-wrote : goal.returns-clause-wrote
returns-clause-wrote g c =
    let on = view_of g.D.Disk.seen g.D.Disk.faults g.D.Disk.clock in
    let key = key_seen c.args.key.now in
    let acked = c.hear_ack-acked.result in
    let appends = subst (λ (b : Bool). AppendsRecords on c.args.disk.now c.record_where.new.disk (end_of c.args.self.now.journal) (end_of c.record_where.new.journal) (retired_where key c.args.state.now b))
    c.is_emptied.ensures c.in_ok-record_where.ensures.written in
    retired_done on key c.args.state.now (acked_by key c.args.state.now c.args.by) (is_emptied acked) c.args.self.now c.args.disk.now c.record_where.new.disk
    (acked_adds key c.args.state.now c.args.by acked c.args.self.now c.hear_ack-acked.ensures.answer) _
    (λ records k. ap (λ (a : Acked). after_ack key c.args.state.now c.args.by a c.args.self.now.log) (sym c.hear_ack-acked.ensures.answer) ∙ sym c.hear_ack-acked.ensures.log)
    c.requires.object (subst HoldsLogged (sym c.hear_ack-acked.ensures.log) (acked_logged key c.args.state.now c.args.by acked c.args.self.now.log c.requires.sound.logged)) c.requires.sound refl refl refl appends
