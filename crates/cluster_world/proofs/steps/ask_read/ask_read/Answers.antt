use Rattle.std.proofs.Common.{◌∙◌, refl, ap, Ok, Err, None}
use Rattle.std.proofs.lemmas.Result.{err_from_is_err_and}
use Rattle.node_store.specs.Disks.{view_of}
use Rattle.cluster_world.specs.AskingReads.{IsReader}
use Rattle.cluster_world.specs.Worlds.{state_with}
use Rattle.cluster_world.specs.Sure.{IsSurelyDone}
use Rattle.cluster_world.specs.declared.step.Step.TheVariants as step
use Rattle.cluster_world.specs.declared.fault.StepFault.TheVariants as fault
use Rattle.cluster_world.proofs.ReadAsked.{asked_beside, asked_settled, asked_did, short_did, short_done, some_told, reader_of, if_reader}
use Rattle.cluster_world.proofs.steps.ask_read.ask_read.Goals as goal

pub ask_read_in-requires-clause-up : goal.ask_read_in-requires-clause-up
ask_read_in-requires-clause-up g c = if_reader (IsReader c.args.ticket.now.node) _ (λ l at. reader_of g.D.Disk.seen c.args.ticket.now c.args.nodes.now c.requires.fit c.requires.ready l at)

pub returns-in_err-ask-clause-did : goal.returns-in_err-ask-clause-did
returns-in_err-ask-clause-did g c = λ flying seconds book.
    let p = err_from_is_err_and c.from_residual.result c.from_residual.ensures.1 in
    rw (p.1, p.2) (short_did (view_of g.D.Disk.seen g.D.Disk.faults g.D.Disk.clock) c.args.ticket.now c.ask_read_in.result c.args.nodes.now c.ask_read_in.new.nodes c.requires.fit c.requires.reads c.requires.ready c.ask_read_in.ensures
    flying seconds book c.in_err-ask.field-0.0 c.in_err-ask.was)

pub returns-in_err-ask-clause-sure : goal.returns-in_err-ask-clause-sure
returns-in_err-ask-clause-sure g c = λ flying seconds book.
    let p = err_from_is_err_and c.from_residual.result c.from_residual.ensures.1 in
    let sure : IsSurelyDone (state_with c.args.nodes.now flying seconds book) (step.Ask c.args.ticket.now) (Err (fault.NoMemory None)) = (
      refl,
      short_done (view_of g.D.Disk.seen g.D.Disk.faults g.D.Disk.clock) c.args.ticket.now c.ask_read_in.result c.args.nodes.now c.ask_read_in.new.nodes c.requires.fit c.requires.reads c.requires.ready c.ask_read_in.ensures
          flying seconds book c.in_err-ask.field-0.0 c.in_err-ask.was,
    ) in
    rw (p.1, p.2) sure

pub returns-in_err-ask-clause-ready : goal.returns-in_err-ask-clause-ready
returns-in_err-ask-clause-ready g c =
    (asked_beside (view_of g.D.Disk.seen g.D.Disk.faults g.D.Disk.clock) c.args.ticket.now c.ask_read_in.result c.args.nodes.now c.ask_read_in.new.nodes c.requires.fit c.requires.reads c.requires.ready c.ask_read_in.ensures).works c.requires.ready

pub returns-in_err-ask-clause-settled : goal.returns-in_err-ask-clause-settled
returns-in_err-ask-clause-settled g c = λ flying seconds book.
    asked_settled (view_of g.D.Disk.seen g.D.Disk.faults g.D.Disk.clock) c.args.ticket.now c.ask_read_in.result c.args.nodes.now c.ask_read_in.new.nodes c.requires.fit c.requires.reads c.requires.ready c.ask_read_in.ensures
    flying seconds book g.D.Disk.settled

pub returns-in_err-ask-clause-falls : goal.returns-in_err-ask-clause-falls
returns-in_err-ask-clause-falls g c =
    (asked_beside (view_of g.D.Disk.seen g.D.Disk.faults g.D.Disk.clock) c.args.ticket.now c.ask_read_in.result c.args.nodes.now c.ask_read_in.new.nodes c.requires.fit c.requires.reads c.requires.ready c.ask_read_in.ensures).falls

pub unreachable-requires : goal.unreachable-requires
unreachable-requires g c =
    some_told (view_of g.D.Disk.seen g.D.Disk.faults g.D.Disk.clock) c.args.ticket.now c.ask_read_in.result c.args.nodes.now c.ask_read_in.new.nodes c.requires.fit c.requires.reads c.requires.ready c.ask_read_in.ensures
    (c.in_ok-ask.was ∙ ap Ok c.in_default.is)

pub returns-clause-did : goal.returns-clause-did
returns-clause-did g c = λ flying seconds book.
    asked_did (view_of g.D.Disk.seen g.D.Disk.faults g.D.Disk.clock) c.args.ticket.now c.ask_read_in.result c.args.nodes.now c.ask_read_in.new.nodes c.requires.fit c.requires.reads c.requires.ready c.ask_read_in.ensures
    flying seconds book c.in-Some.ask (c.in_ok-ask.was ∙ ap Ok c.in-Some.is)

pub returns-clause-ready : goal.returns-clause-ready
returns-clause-ready g c =
    (asked_beside (view_of g.D.Disk.seen g.D.Disk.faults g.D.Disk.clock) c.args.ticket.now c.ask_read_in.result c.args.nodes.now c.ask_read_in.new.nodes c.requires.fit c.requires.reads c.requires.ready c.ask_read_in.ensures).works c.requires.ready

pub returns-clause-settled : goal.returns-clause-settled
returns-clause-settled g c = λ flying seconds book.
    asked_settled (view_of g.D.Disk.seen g.D.Disk.faults g.D.Disk.clock) c.args.ticket.now c.ask_read_in.result c.args.nodes.now c.ask_read_in.new.nodes c.requires.fit c.requires.reads c.requires.ready c.ask_read_in.ensures
    flying seconds book g.D.Disk.settled

pub returns-clause-falls : goal.returns-clause-falls
returns-clause-falls g c =
    (asked_beside (view_of g.D.Disk.seen g.D.Disk.faults g.D.Disk.clock) c.args.ticket.now c.ask_read_in.result c.args.nodes.now c.ask_read_in.new.nodes c.requires.fit c.requires.reads c.requires.ready c.ask_read_in.ensures).falls
