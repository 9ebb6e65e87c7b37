use Rattle.std.specs.Prelude.{ℕ, List}
use Rattle.std.proofs.lemmas.Result.{err_from_is_err_and}
use Rattle.mail_model.specs.Identity.Key.{Message}
use Rattle.mail_model.specs.Identity.Value.{Here}
use Rattle.node_store.specs.Disks.{view_of}
use Rattle.node_store.proofs.Journals.{fails_after}
use Rattle.node_store.proofs.Works.{done_none}
use Rattle.node_store.proofs.Lists.{listed_done, listed_stopped}
use Rattle.node_store.proofs.store.NodeStore.take_here.Goals as goal

pub loop-user-init : goal.loop-user-init
loop-user-init g c = record {
  done = done_none (view_of g.D.Disk.seen g.D.Disk.faults g.D.Disk.clock) c.args.self.now c.args.disk.now c.requires.sound;
  settled = λ before. before;
}

pub returns-in_err-take_copy-clause-wrote : goal.returns-in_err-take_copy-clause-wrote
returns-in_err-take_copy-clause-wrote g c =
    let p = err_from_is_err_and c.from_residual.result c.from_residual.ensures.1 in
    let w = c.in_err-take_copy.ensures.wrote in
    let so_far = c.loop-user.invariant.done in
    rw (p.1, p.2) (
      listed_stopped (λ (user : List ℕ). record { key = Message user c.args.id; state = record { value = Here; stamp = c.args.stamp; targets = c.args.targets } }) c.args.users.now (view_of g.D.Disk.seen g.D.Disk.faults g.D.Disk.clock) c.args.self.now c.args.disk.now
          c.loop-user.self c.loop-user.disk c.take_copy.new.disk c.loop-user.user-index _ c.loop-user-test.true c.user-item.is so_far w.0,
      fails_after _ _ _ _ so_far.appends.quiet w.1,
    )

pub loop-user-preserved : goal.loop-user-preserved
loop-user-preserved g c = record {
  done = listed_done (λ (user : List ℕ). record { key = Message user c.args.id; state = record { value = Here; stamp = c.args.stamp; targets = c.args.targets } }) c.args.users.now (view_of g.D.Disk.seen g.D.Disk.faults g.D.Disk.clock) c.args.self.now c.args.disk.now
      c.loop-user.self c.loop-user.disk c.take_copy.new.disk c.loop-user.user-index _ c.loop-user-test.true c.user-item.is c.loop-user.invariant.done c.take_copy.new.self c.in_ok-take_copy.ensures.wrote;
  settled = λ before. c.in_ok-take_copy.ensures.settled (c.loop-user.invariant.settled before);
}
