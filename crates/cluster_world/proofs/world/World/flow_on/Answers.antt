use Rattle.std.proofs.lemmas.Result.{err_from_is_err_and}
use Rattle.node_store.specs.Disks.{view_of}
use Rattle.cluster_world.proofs.Settles.{flowed_well, flowed_fault, flowed_refused}
use Rattle.cluster_world.proofs.world.World.flow_on.Goals as goal

pub returns-in_err-fell-clause-flowed : goal.returns-in_err-fell-clause-flowed
returns-in_err-fell-clause-flowed g c =
    let p = err_from_is_err_and c.from_residual.result c.from_residual.ensures.1 in
    rw (p.1, p.2) (flowed_refused (view_of g.D.Disk.seen g.D.Disk.faults g.D.Disk.clock) _ _ _ c.in_err-fell.ensures.flowed)

pub returns-in-Some-clause-flowed : goal.returns-in-Some-clause-flowed
returns-in-Some-clause-flowed g c = flowed_fault (view_of g.D.Disk.seen g.D.Disk.faults g.D.Disk.clock) _ _ _ (rw c.in-Some.is at c.in_ok-fell.ensures.flowed)

pub returns-in-None-clause-flowed : goal.returns-in-None-clause-flowed
returns-in-None-clause-flowed g c = flowed_well (view_of g.D.Disk.seen g.D.Disk.faults g.D.Disk.clock) _ _ (rw c.in-None.is at c.in_ok-fell.ensures.flowed)
