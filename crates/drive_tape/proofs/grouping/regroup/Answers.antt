use Rattle.node_store.specs.Disks.{view_of}
use Rattle.drive_tape.proofs.Stepping.{plan_kept}
use Rattle.drive_tape.proofs.Forming.{regroup_done}
use Rattle.drive_tape.proofs.grouping.regroup.Goals as goal

pub returns-clause-plan : goal.returns-clause-plan
returns-clause-plan g c = plan_kept (view_of g.D.Disk.seen g.D.Disk.faults g.D.Disk.clock) c.regroup-did.ensures.regrouped.0 c.args.world.now c.regroup-did.new.self c.regroup-did.ensures.regrouped.1.made

pub returns-clause-moved : goal.returns-clause-moved
returns-clause-moved g c start outcomes awaited been fit =
    regroup_done (view_of g.D.Disk.seen g.D.Disk.faults g.D.Disk.clock) start c.args.world.now outcomes awaited been c.args.node fit c.regroup-did.new.self c.regroup-did.result c.regrouped.result c.regrouped.ensures.forms c.regroup-did.ensures.regrouped
