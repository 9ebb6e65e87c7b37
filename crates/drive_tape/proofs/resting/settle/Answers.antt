use Rattle.node_store.specs.Disks.{view_of}
use Rattle.drive_tape.proofs.Stepping.{plan_kept}
use Rattle.drive_tape.proofs.Settles.{settle_done}
use Rattle.drive_tape.proofs.resting.settle.Goals as goal

pub returns-clause-plan : goal.returns-clause-plan
returns-clause-plan g c = plan_kept (view_of g.D.Disk.seen g.D.Disk.faults g.D.Disk.clock) c.settle-came.ensures.settles.makes.steps c.args.world.now c.settle-came.new.self c.settle-came.ensures.settles.makes.made

pub returns-clause-moved : goal.returns-clause-moved
returns-clause-moved g c start outcomes awaited been fit =
    settle_done (view_of g.D.Disk.seen g.D.Disk.faults g.D.Disk.clock) start c.args.world.now outcomes awaited been fit c.settle-came.new.self c.settle-came.result c.settled.result c.settled.ensures.settles c.settle-came.ensures.settles.makes
