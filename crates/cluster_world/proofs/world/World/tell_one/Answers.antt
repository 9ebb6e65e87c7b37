use Rattle.std.proofs.lemmas.Result.{err_from_is_err_and}
use Rattle.node_store.specs.Disks.{view_of}
use Rattle.cluster_world.proofs.Settles.{push_halts, told_one}
use Rattle.cluster_world.proofs.world.World.tell_one.Goals as goal

pub returns-in_err-push_all-clause-told : goal.returns-in_err-push_all-clause-told
returns-in_err-push_all-clause-told g c =
    let p = err_from_is_err_and c.from_residual.result c.from_residual.ensures.1 in
    rw (p.1, p.2) (push_halts (view_of g.D.Disk.seen g.D.Disk.faults g.D.Disk.clock) _ _ c.requires.other _ _ _ c.in_err-push_all.ensures.made)

pub returns-clause-told : goal.returns-clause-told
returns-clause-told g c = told_one (view_of g.D.Disk.seen g.D.Disk.faults g.D.Disk.clock) _ _ c.requires.other _ _ _ _ c.in_ok-push_all.ensures.made c.report_all.ensures.made
