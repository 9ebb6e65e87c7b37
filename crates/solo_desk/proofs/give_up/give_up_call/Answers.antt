use Rattle.std.proofs.Common.{inr}
use Rattle.node_store.specs.Disks.{view_of}
use Rattle.cluster_world.specs.declared.step.Step.TheVariants.{GiveUp}
use Rattle.solo_desk.proofs.Stepping.{steps_serve}
use Rattle.solo_desk.proofs.Posting.{give_up_adds, gave_up_by}
use Rattle.solo_desk.proofs.give_up.give_up_call.Goals as goal

pub returns-clause-serves : goal.returns-clause-serves
returns-clause-serves g c = λ serves.
    let on = view_of g.D.Disk.seen g.D.Disk.faults g.D.Disk.clock in
    steps_serve on c.step-said.result (GiveUp c.args.ticket.now.ticket) c.args.world.now c.step-said.new.self c.step-said.ensures.is (inr tt) tt c.step-said.ensures.ready serves

pub returns-clause-longer : goal.returns-clause-longer
returns-clause-longer g c = c.step-said.ensures.is.did.books

pub returns-clause-adds : goal.returns-clause-adds
returns-clause-adds g c = λ serves.
    let on = view_of g.D.Disk.seen g.D.Disk.faults g.D.Disk.clock in
    give_up_adds on c.args.world.now c.step-said.new.self serves c.step-said.result c.args.ticket.now.ticket c.step-said.ensures.is

pub returns-clause-made : goal.returns-clause-made
returns-clause-made g c =
    let on = view_of g.D.Disk.seen g.D.Disk.faults g.D.Disk.clock in
    gave_up_by on c.args.world.now c.step-said.new.self c.args.ticket.now c.step-said.result c.ended.result c.ended.ensures.ends c.step-said.ensures.is
