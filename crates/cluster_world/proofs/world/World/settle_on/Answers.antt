use Rattle.std.proofs.lemmas.Result.{err_from_is_err_and}
use Rattle.node_store.specs.Disks.{view_of}
use Rattle.cluster_world.proofs.Settles.{flow_halts, goes_on}
use Rattle.cluster_world.proofs.world.World.settle_on.Goals as goal

pub returns-in_err-flow_on-clause-goes : goal.returns-in_err-flow_on-clause-goes
returns-in_err-flow_on-clause-goes g c =
    let p = err_from_is_err_and c.from_residual.result c.from_residual.ensures.1 in
    rw (p.1, p.2) (flow_halts (view_of g.D.Disk.seen g.D.Disk.faults g.D.Disk.clock) _ _ _ c.in_err-flow_on.ensures.flowed)

pub sweep_all-requires-clause-clear : goal.sweep_all-requires-clause-clear
sweep_all-requires-clause-clear g c = c.in_ok-flow_on.ensures.flowed.1.clear

pub returns-clause-goes : goal.returns-clause-goes
returns-clause-goes g c = goes_on (view_of g.D.Disk.seen g.D.Disk.faults g.D.Disk.clock) _ _ _ _ c.in_ok-flow_on.ensures.flowed c.requires.present c.sweep_all.ensures.swept
