use Rattle.std.proofs.Common.{inr}
use Rattle.node_store.specs.Disks.{view_of}
use Rattle.cluster_world.specs.declared.step.Step.TheVariants.{Begin}
use Rattle.solo_desk.proofs.Stepping.{steps_serve}
use Rattle.solo_desk.proofs.Posting.{leave_adds, leave_is_ended}
use Rattle.solo_desk.proofs.leave.leave_login.Goals as goal

pub returns-clause-serves : goal.returns-clause-serves
returns-clause-serves g c = λ serves.
    let on = view_of g.D.Disk.seen g.D.Disk.faults g.D.Disk.clock in
    let ended = leave_is_ended c.args.call c.if-not-is_leave.ensures in
    steps_serve on c.step-said.result (Begin c.args.node c.args.call) c.args.world.now c.step-said.new.self c.step-said.ensures.is (inr tt) ended c.step-said.ensures.ready serves

pub returns-clause-longer : goal.returns-clause-longer
returns-clause-longer g c = c.step-said.ensures.is.did.books

pub returns-clause-adds : goal.returns-clause-adds
returns-clause-adds g c = λ serves.
    let on = view_of g.D.Disk.seen g.D.Disk.faults g.D.Disk.clock in
    leave_adds on c.args.world.now c.step-said.new.self serves c.step-said.result c.args.node c.args.call c.if-not-is_leave.ensures c.step-said.ensures.is
