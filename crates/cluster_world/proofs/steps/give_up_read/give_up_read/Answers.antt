use Rattle.std.proofs.Common.{◌≡◌, ◌∙◌, refl, sym, ap, subst, nat_le, Some, Ok, Err, None, arith}
use Rattle.std.proofs.lemmas.Result.{err_from_is_err_and}
use Rattle.cluster_model.specs.Steps.{letters_end}
use Rattle.node_store.specs.Disks.{view_of}
use Rattle.node_reads.specs.Readings.{listed}
use Rattle.cluster_world.specs.AskingReads.{IsReader}
use Rattle.cluster_world.specs.Flights.{InFlight}
use Rattle.cluster_world.specs.Reading.{flying_of, PutsQueue}
use Rattle.cluster_world.specs.Worlds.{state_with}
use Rattle.cluster_world.specs.Sure.{IsSurelyDone}
use Rattle.cluster_world.specs.declared.step.Step.TheVariants as step
use Rattle.cluster_world.specs.declared.fault.StepFault.TheVariants as fault
use Rattle.cluster_world.proofs.ReadAsked.{if_reader}
use Rattle.cluster_world.proofs.ReadGiven.{giver_of, read_too_late, reading_there, given_beside, given_settled, given_read}
use Rattle.cluster_world.proofs.Same.{none_done}
use Rattle.cluster_world.proofs.steps.give_up_read.give_up_read.Goals as goal

pub returns-then-is_worn-clause-did : goal.returns-then-is_worn-clause-did
returns-then-is_worn-clause-did g c = λ seconds book.
    read_too_late (view_of g.D.Disk.seen g.D.Disk.faults g.D.Disk.clock) c.args.ticket.now c.args.nodes.now c.requires.fit c.requires.reads c.requires.ready c.args.flying.now seconds book
    (ap (nat_le letters_end) (sym c.sent.ensures) ∙ sym c.is_worn.ensures ∙ c.if-is_worn.true)

pub give_up_read_in-letter-requires-clause-up : goal.give_up_read_in-letter-requires-clause-up
give_up_read_in-letter-requires-clause-up g c = if_reader (IsReader c.args.ticket.now.node) _ (λ l at. giver_of (view_of g.D.Disk.seen g.D.Disk.faults g.D.Disk.clock) c.args.ticket.now c.args.nodes.now c.requires.fit c.requires.reads c.requires.ready l at)

pub returns-in_err-roomy-clause-did : goal.returns-in_err-roomy-clause-did
returns-in_err-roomy-clause-did g c = λ seconds book.
    let on = (view_of g.D.Disk.seen g.D.Disk.faults g.D.Disk.clock) in
    let p = err_from_is_err_and c.from_residual.result c.from_residual.ensures.1 in
    rw (p.1, p.2, c.in_err-roomy.ensures.err) (none_done on (state_with c.args.nodes.now c.args.flying.now seconds book) (step.GiveUp c.args.ticket.now))

pub put_next-requires-clause-works : goal.put_next-requires-clause-works
put_next-requires-clause-works g c =
    (given_beside (view_of g.D.Disk.seen g.D.Disk.faults g.D.Disk.clock) c.args.ticket.now c.args.nodes.now c.requires.fit c.requires.reads c.requires.ready c.give_up_read_in-letter.result c.give_up_read_in-letter.new.nodes c.give_up_read_in-letter.ensures.given).works c.requires.ready

pub returns-clause-did : goal.returns-clause-did
returns-clause-did g c = λ seconds book.
    given_read (view_of g.D.Disk.seen g.D.Disk.faults g.D.Disk.clock) c.args.ticket.now c.args.nodes.now c.requires.fit c.requires.reads c.requires.ready c.give_up_read_in-letter.result c.give_up_read_in-letter.new.nodes c.give_up_read_in-letter.ensures.given c.put_next.new.nodes c.args.flying.now c.put_back.new.self seconds book
    (subst (λ (f : InFlight). PutsQueue (view_of g.D.Disk.seen g.D.Disk.faults g.D.Disk.clock) (listed c.give_up_read_in-letter.result) c.give_up_read_in-letter.new.nodes f c.put_next.new.nodes c.put_back.new.self) c.in_ok-roomy.ensures.taken
    (subst (λ (f : InFlight). PutsQueue (view_of g.D.Disk.seen g.D.Disk.faults g.D.Disk.clock) (listed c.give_up_read_in-letter.result) c.give_up_read_in-letter.new.nodes (flying_of c.in_ok-roomy.roomy) c.put_next.new.nodes f) (sym c.put_back.ensures) c.put_next.ensures.puts))
    (ap (nat_le letters_end) (sym c.sent.ensures) ∙ sym c.is_worn.ensures ∙ c.if-is_worn.false)

pub returns-clause-ready : goal.returns-clause-ready
returns-clause-ready g c = c.put_next.ensures.puts.beside.works
    ((given_beside (view_of g.D.Disk.seen g.D.Disk.faults g.D.Disk.clock) c.args.ticket.now c.args.nodes.now c.requires.fit c.requires.reads c.requires.ready c.give_up_read_in-letter.result c.give_up_read_in-letter.new.nodes c.give_up_read_in-letter.ensures.given).works c.requires.ready)

pub returns-clause-settled : goal.returns-clause-settled
returns-clause-settled g c = λ seconds book.
    given_settled (view_of g.D.Disk.seen g.D.Disk.faults g.D.Disk.clock) c.args.ticket.now c.args.nodes.now c.requires.fit c.requires.reads c.requires.ready c.give_up_read_in-letter.result c.give_up_read_in-letter.new.nodes c.give_up_read_in-letter.ensures.given c.put_next.new.nodes c.args.flying.now c.put_back.new.self seconds book
    (subst (λ (f : InFlight). PutsQueue (view_of g.D.Disk.seen g.D.Disk.faults g.D.Disk.clock) (listed c.give_up_read_in-letter.result) c.give_up_read_in-letter.new.nodes f c.put_next.new.nodes c.put_back.new.self) c.in_ok-roomy.ensures.taken
    (subst (λ (f : InFlight). PutsQueue (view_of g.D.Disk.seen g.D.Disk.faults g.D.Disk.clock) (listed c.give_up_read_in-letter.result) c.give_up_read_in-letter.new.nodes (flying_of c.in_ok-roomy.roomy) c.put_next.new.nodes f) (sym c.put_back.ensures) c.put_next.ensures.puts)) g.D.Disk.settled

pub returns-clause-falls : goal.returns-clause-falls
returns-clause-falls g c = c.put_next.ensures.puts.beside.falls
    ∙ (given_beside (view_of g.D.Disk.seen g.D.Disk.faults g.D.Disk.clock) c.args.ticket.now c.args.nodes.now c.requires.fit c.requires.reads c.requires.ready c.give_up_read_in-letter.result c.give_up_read_in-letter.new.nodes c.give_up_read_in-letter.ensures.given).falls
