use Rattle.std.proofs.Common.{arith}
use Rattle.std.proofs.lemmas.Result.{err_from_is_err_and}
use Rattle.node_store.specs.Disks.{view_of}
use Rattle.cluster_world.proofs.Settles.{sweep_halts, sweep_idly, sweep_well}
use Rattle.cluster_world.proofs.world.World.sweep_once.Goals as goal

pub returns-in_err-sweep-clause-swept : goal.returns-in_err-sweep-clause-swept
returns-in_err-sweep-clause-swept g c =
    let p = err_from_is_err_and c.from_residual.result c.from_residual.ensures.1 in
    rw (p.1, p.2) (sweep_halts (view_of g.D.Disk.seen g.D.Disk.faults g.D.Disk.clock) c.args.left _ _ _ c.in_err-sweep.ensures.told)

pub returns-then-now-left-clause-swept : goal.returns-then-now-left-clause-swept
returns-then-now-left-clause-swept g c = sweep_well (view_of g.D.Disk.seen g.D.Disk.faults g.D.Disk.clock) _ _ c.args.left c.numbers_left-now.result c.requires.due c.in_ok-sweep.ensures.told c.requires.left c.numbers_left-now.ensures (omega (arith, c.if-now-left.true))

pub returns-else-now-left-clause-swept : goal.returns-else-now-left-clause-swept
returns-else-now-left-clause-swept g c = sweep_idly (view_of g.D.Disk.seen g.D.Disk.faults g.D.Disk.clock) _ _ c.args.left c.numbers_left-now.result c.requires.due c.in_ok-sweep.ensures.told c.requires.left c.numbers_left-now.ensures (omega (arith, c.if-now-left.false))
