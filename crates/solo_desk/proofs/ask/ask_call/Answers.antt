use Rattle.std.proofs.Common.{inr, sym}
use Rattle.node_store.specs.Disks.{view_of}
use Rattle.cluster_world.specs.declared.step.Step.TheVariants.{Ask}
use Rattle.solo_desk.proofs.Stepping.{steps_serve}
use Rattle.solo_desk.proofs.Answering.{answers_in_kind, handed_adds, handed_by}
use Rattle.solo_desk.proofs.Saying.{said_of_ask}
use Rattle.solo_desk.proofs.ask.ask_call.Goals as goal

pub hand_on-requires : goal.hand_on-requires
hand_on-requires g c =
    let on = view_of g.D.Disk.seen g.D.Disk.faults g.D.Disk.clock in
    said_of_ask on c.args.world.now c.step-said.new.self c.step-said.result c.args.ticket.now.ticket c.step-said.ensures.is

pub returns-clause-serves : goal.returns-clause-serves
returns-clause-serves g c = λ serves.
    let on = view_of g.D.Disk.seen g.D.Disk.faults g.D.Disk.clock in
    steps_serve on c.step-said.result (Ask c.args.ticket.now.ticket) c.args.world.now c.step-said.new.self c.step-said.ensures.is (inr tt) tt c.step-said.ensures.ready serves

pub returns-clause-longer : goal.returns-clause-longer
returns-clause-longer g c = c.step-said.ensures.is.did.books

pub returns-clause-adds : goal.returns-clause-adds
returns-clause-adds g c = λ serves.
    let on = view_of g.D.Disk.seen g.D.Disk.faults g.D.Disk.clock in
    handed_adds on c.args.ticket.now c.args.world.now c.step-said.new.self serves (sym c.if-not-stands_as_begun.ensures) c.step-said.result c.hand_on.result c.hand_on.ensures c.step-said.ensures.is c.step-said.ensures.sure

pub returns-clause-kind : goal.returns-clause-kind
returns-clause-kind g c = answers_in_kind c.args.ticket.now.begun c.step-said.result c.hand_on.result c.hand_on.ensures

pub returns-clause-made : goal.returns-clause-made
returns-clause-made g c =
    let on = view_of g.D.Disk.seen g.D.Disk.faults g.D.Disk.clock in
    handed_by on c.args.ticket.now c.args.world.now c.step-said.new.self c.step-said.result c.hand_on.result c.hand_on.ensures c.step-said.ensures.is
