use Rattle.object_model.specs.Letters.{DeletionMark}
use Rattle.std.proofs.lemmas.Result.{err_from_is_err_and}
use Rattle.mail_model.specs.Identity.Key.{Message}
use Rattle.mail_model.specs.Identity.Value.{Gone}
use Rattle.node_store.specs.Disks.{view_of}
use Rattle.node_store.proofs.Journals.{fails_after}
use Rattle.node_store.proofs.Works.{done_none}
use Rattle.node_store.proofs.Lists.{listed_done, listed_stopped}
use Rattle.node_store.proofs.store.NodeStore.take_gone.Goals as goal

pub loop-mark-init : goal.loop-mark-init
loop-mark-init g c = record {
  done = done_none (view_of g.D.Disk.seen g.D.Disk.faults g.D.Disk.clock) c.args.self.now c.args.disk.now c.requires.sound;
  settled = λ before. before;
}

pub returns-in_err-take_mark-clause-wrote : goal.returns-in_err-take_mark-clause-wrote
returns-in_err-take_mark-clause-wrote g c =
    let p = err_from_is_err_and c.from_residual.result c.from_residual.ensures.1 in
    let w = c.in_err-take_mark.ensures.wrote in
    let so_far = c.loop-mark.invariant.done in
    rw (p.1, p.2) (
      listed_stopped (λ (mark : DeletionMark). record { key = Message c.args.user.now mark.id; state = record { value = Gone; stamp = mark.stamp; targets = c.args.targets } }) c.args.marks.now (view_of g.D.Disk.seen g.D.Disk.faults g.D.Disk.clock) c.args.self.now c.args.disk.now
          c.loop-mark.self c.loop-mark.disk c.take_mark.new.disk c.loop-mark.mark-index _ c.loop-mark-test.true c.mark-item.is so_far w.0,
      fails_after _ _ _ _ so_far.appends.quiet w.1,
    )

pub loop-mark-preserved : goal.loop-mark-preserved
loop-mark-preserved g c = record {
  done = listed_done (λ (mark : DeletionMark). record { key = Message c.args.user.now mark.id; state = record { value = Gone; stamp = mark.stamp; targets = c.args.targets } }) c.args.marks.now (view_of g.D.Disk.seen g.D.Disk.faults g.D.Disk.clock) c.args.self.now c.args.disk.now
      c.loop-mark.self c.loop-mark.disk c.take_mark.new.disk c.loop-mark.mark-index _ c.loop-mark-test.true c.mark-item.is c.loop-mark.invariant.done c.take_mark.new.self c.in_ok-take_mark.ensures.wrote;
  settled = λ before. c.in_ok-take_mark.ensures.settled (c.loop-mark.invariant.settled before);
}
