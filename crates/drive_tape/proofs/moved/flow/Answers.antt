use Rattle.node_store.specs.Disks.{view_of}
use Rattle.cluster_world.proofs.Ordered.{posts_make}
use Rattle.drive_tape.proofs.Stepping.{plan_kept}
use Rattle.drive_tape.proofs.Posting.{flowed, flow_faulted, flow_denied}
use Rattle.drive_tape.proofs.moved.flow.Goals as goal

pub returns-in-Ok-None-clause-plan : goal.returns-in-Ok-None-clause-plan
returns-in-Ok-None-clause-plan g c = plan_kept (view_of g.D.Disk.seen g.D.Disk.faults g.D.Disk.clock) c.flow.ensures.flowed.steps c.args.world.now c.flow.new.self (posts_make (view_of g.D.Disk.seen g.D.Disk.faults g.D.Disk.clock) c.flow.ensures.flowed.steps c.args.world.now c.flow.new.self c.flow.ensures.flowed.made)

pub returns-in-Ok-Some-clause-plan : goal.returns-in-Ok-Some-clause-plan
returns-in-Ok-Some-clause-plan g c = plan_kept (view_of g.D.Disk.seen g.D.Disk.faults g.D.Disk.clock) c.flow.ensures.flowed.steps c.args.world.now c.flow.new.self (posts_make (view_of g.D.Disk.seen g.D.Disk.faults g.D.Disk.clock) c.flow.ensures.flowed.steps c.args.world.now c.flow.new.self c.flow.ensures.flowed.made)

pub returns-in-Err-clause-plan : goal.returns-in-Err-clause-plan
returns-in-Err-clause-plan g c = plan_kept (view_of g.D.Disk.seen g.D.Disk.faults g.D.Disk.clock) c.flow.ensures.flowed.steps c.args.world.now c.flow.new.self (posts_make (view_of g.D.Disk.seen g.D.Disk.faults g.D.Disk.clock) c.flow.ensures.flowed.steps c.args.world.now c.flow.new.self c.flow.ensures.flowed.made)

pub returns-in-Ok-None-clause-moved : goal.returns-in-Ok-None-clause-moved
returns-in-Ok-None-clause-moved g c start outcomes awaited been fit =
    flowed (view_of g.D.Disk.seen g.D.Disk.faults g.D.Disk.clock) start c.args.world.now outcomes awaited been fit c.flow.new.self c.flow.result c.flow.ensures.flowed (let a = c.in-Ok-None.is in let b = c.in-Ok-None.field-0-is in cc)

pub returns-in-Ok-Some-clause-moved : goal.returns-in-Ok-Some-clause-moved
returns-in-Ok-Some-clause-moved g c start outcomes awaited been fit =
    flow_faulted (view_of g.D.Disk.seen g.D.Disk.faults g.D.Disk.clock) start c.args.world.now outcomes awaited been fit c.flow.new.self c.flow.result c.in-Ok-Some.node c.flow.ensures.flowed (let a = c.in-Ok-Some.is in let b = c.in-Ok-Some.field-0-is in cc)

pub returns-in-Err-clause-moved : goal.returns-in-Err-clause-moved
returns-in-Err-clause-moved g c start outcomes awaited been fit =
    flow_denied (view_of g.D.Disk.seen g.D.Disk.faults g.D.Disk.clock) start c.args.world.now outcomes awaited been fit c.flow.new.self c.flow.result c.in-Err.fault c.stop_by.result c.flow.ensures.flowed c.in-Err.is c.stop_by.ensures.is
