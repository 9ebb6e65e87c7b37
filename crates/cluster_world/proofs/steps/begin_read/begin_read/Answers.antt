use Rattle.std.proofs.Common.{nat_le, sym, ap, subst, ◌∙◌, arith}
use Rattle.std.proofs.lemmas.Result.{err_from_is_err_and}
use Rattle.cluster_model.specs.Steps.{letters_end}
use Rattle.node_store.specs.Disks.{view_of}
use Rattle.cluster_world.specs.BeginningReads.{ConcludesReading}
use Rattle.cluster_world.specs.Flights.{InFlight}
use Rattle.cluster_world.specs.Reading.{flying_of}
use Rattle.cluster_world.specs.Worlds.{state_with}
use Rattle.cluster_world.specs.declared.step.Step.TheVariants as step
use Rattle.cluster_world.proofs.Same.{none_done}
use Rattle.cluster_world.proofs.Asked.{same_book}
use Rattle.cluster_world.proofs.BeginEnds.{begin_late}
use Rattle.cluster_world.proofs.ReadBegins.{read_begun, read_ready, read_falls, read_settled, read_mid_ready, read_sends}
use Rattle.cluster_world.proofs.steps.begin_read.begin_read.Goals as goal

pub returns-then-is_worn-clause-did : goal.returns-then-is_worn-clause-did
returns-then-is_worn-clause-did g c = λ seconds.
    begin_late (view_of g.D.Disk.seen g.D.Disk.faults g.D.Disk.clock) c.args.node c.args.call seconds c.args.nodes.now c.requires.fit c.args.flying.now c.args.book.now (ap (nat_le letters_end) (sym c.sent.ensures) ∙ sym c.is_worn.ensures ∙ c.if-is_worn.true)

pub returns-in_err-queue-clause-did : goal.returns-in_err-queue-clause-did
returns-in_err-queue-clause-did g c =
    let p = err_from_is_err_and c.from_residual.result c.from_residual.ensures.1 in
    λ seconds. rw (p.1, p.2) (none_done (view_of g.D.Disk.seen g.D.Disk.faults g.D.Disk.clock) (state_with c.args.nodes.now c.args.flying.now seconds c.args.book.now) (step.Begin c.args.node c.args.call))

pub returns-in_err-reserve-clause-did : goal.returns-in_err-reserve-clause-did
returns-in_err-reserve-clause-did g c =
    let p = err_from_is_err_and c.from_residual-in_err-reserve.result c.from_residual-in_err-reserve.ensures.1 in
    λ seconds. rw (p.1, p.2) (same_book (view_of g.D.Disk.seen g.D.Disk.faults g.D.Disk.clock) _ (step.Begin c.args.node c.args.call) c.args.nodes.now c.args.nodes.now c.args.flying.now seconds c.args.book.now c.reserve.new.self c.reserve.ensures.entries
    (none_done (view_of g.D.Disk.seen g.D.Disk.faults g.D.Disk.clock) (state_with c.args.nodes.now c.args.flying.now seconds c.args.book.now) (step.Begin c.args.node c.args.call)))

pub returns-in_err-roomy-clause-did : goal.returns-in_err-roomy-clause-did
returns-in_err-roomy-clause-did g c =
    let p = err_from_is_err_and c.from_residual-in_err-roomy.result c.from_residual-in_err-roomy.ensures.1 in
    λ seconds. rw (p.1, p.2, c.in_err-roomy.ensures.err) (same_book (view_of g.D.Disk.seen g.D.Disk.faults g.D.Disk.clock) _ (step.Begin c.args.node c.args.call) c.args.nodes.now c.args.nodes.now c.args.flying.now seconds c.args.book.now c.reserve.new.self c.reserve.ensures.entries
    (none_done (view_of g.D.Disk.seen g.D.Disk.faults g.D.Disk.clock) (state_with c.args.nodes.now c.args.flying.now seconds c.args.book.now) (step.Begin c.args.node c.args.call)))

pub conclude_read-said-requires-clause-works : goal.conclude_read-said-requires-clause-works
conclude_read-said-requires-clause-works g c =
    read_mid_ready (view_of g.D.Disk.seen g.D.Disk.faults g.D.Disk.clock) g.D.Disk.settled c.args.node c.args.call c.args.nodes.now _ c.requires.fit c.requires.ready c.begin_read_in-did.result c.begin_read_in-did.ensures.begins

pub conclude_read-said-requires-clause-sends : goal.conclude_read-said-requires-clause-sends
conclude_read-said-requires-clause-sends g c =
    read_sends (view_of g.D.Disk.seen g.D.Disk.faults g.D.Disk.clock) g.D.Disk.settled c.args.node c.args.call c.args.nodes.now _ c.requires.fit c.requires.ready c.begin_read_in-did.result c.begin_read_in-did.ensures.begins

pub returns-clause-did : goal.returns-clause-did
returns-clause-did g c = λ seconds.
    read_begun (view_of g.D.Disk.seen g.D.Disk.faults g.D.Disk.clock) g.D.Disk.settled c.args.node c.args.call c.args.nodes.now c.begin_read_in-did.new.nodes c.requires.fit c.requires.ready c.begin_read_in-did.result c.begin_read_in-did.ensures.begins
    c.args.flying.now c.args.book.now c.reserve.new.self c.reserve.ensures.entries c.conclude_read-said.new.nodes c.put_back.new.self c.conclude_read-said.new.book c.conclude_read-said.result (ap (nat_le letters_end) (sym c.sent.ensures) ∙ sym c.is_worn.ensures ∙ c.if-is_worn.false) c.requires.reads seconds
    (subst (λ (f : InFlight). ConcludesReading (view_of g.D.Disk.seen g.D.Disk.faults g.D.Disk.clock) c.args.node c.conclude_read-said.result c.begin_read_in-did.new.nodes f c.reserve.new.self c.conclude_read-said.new.nodes c.put_back.new.self c.conclude_read-said.new.book c.begin_read_in-did.result) c.in_ok-roomy.ensures.taken
    (subst (λ (f : InFlight). ConcludesReading (view_of g.D.Disk.seen g.D.Disk.faults g.D.Disk.clock) c.args.node c.conclude_read-said.result c.begin_read_in-did.new.nodes (flying_of c.in_ok-roomy.roomy) c.reserve.new.self c.conclude_read-said.new.nodes f c.conclude_read-said.new.book c.begin_read_in-did.result) (sym c.put_back.ensures) c.conclude_read-said.ensures.concludes))

pub returns-clause-ready : goal.returns-clause-ready
returns-clause-ready g c =
    read_ready (view_of g.D.Disk.seen g.D.Disk.faults g.D.Disk.clock) g.D.Disk.settled c.args.node c.args.call c.args.nodes.now c.begin_read_in-did.new.nodes c.requires.fit c.requires.ready c.begin_read_in-did.result c.begin_read_in-did.ensures.begins
    c.args.flying.now c.args.book.now c.reserve.new.self c.reserve.ensures.entries c.conclude_read-said.new.nodes c.put_back.new.self c.conclude_read-said.new.book c.conclude_read-said.result
    (subst (λ (f : InFlight). ConcludesReading (view_of g.D.Disk.seen g.D.Disk.faults g.D.Disk.clock) c.args.node c.conclude_read-said.result c.begin_read_in-did.new.nodes f c.reserve.new.self c.conclude_read-said.new.nodes c.put_back.new.self c.conclude_read-said.new.book c.begin_read_in-did.result) c.in_ok-roomy.ensures.taken
    (subst (λ (f : InFlight). ConcludesReading (view_of g.D.Disk.seen g.D.Disk.faults g.D.Disk.clock) c.args.node c.conclude_read-said.result c.begin_read_in-did.new.nodes (flying_of c.in_ok-roomy.roomy) c.reserve.new.self c.conclude_read-said.new.nodes f c.conclude_read-said.new.book c.begin_read_in-did.result) (sym c.put_back.ensures) c.conclude_read-said.ensures.concludes))

pub returns-clause-settled : goal.returns-clause-settled
returns-clause-settled g c = λ seconds.
    read_settled (view_of g.D.Disk.seen g.D.Disk.faults g.D.Disk.clock) g.D.Disk.settled c.args.node c.args.call c.args.nodes.now c.begin_read_in-did.new.nodes c.requires.fit c.requires.ready c.begin_read_in-did.result c.begin_read_in-did.ensures.begins
    c.args.flying.now c.args.book.now c.reserve.new.self c.reserve.ensures.entries c.conclude_read-said.new.nodes c.put_back.new.self c.conclude_read-said.new.book c.conclude_read-said.result seconds
    (subst (λ (f : InFlight). ConcludesReading (view_of g.D.Disk.seen g.D.Disk.faults g.D.Disk.clock) c.args.node c.conclude_read-said.result c.begin_read_in-did.new.nodes f c.reserve.new.self c.conclude_read-said.new.nodes c.put_back.new.self c.conclude_read-said.new.book c.begin_read_in-did.result) c.in_ok-roomy.ensures.taken
    (subst (λ (f : InFlight). ConcludesReading (view_of g.D.Disk.seen g.D.Disk.faults g.D.Disk.clock) c.args.node c.conclude_read-said.result c.begin_read_in-did.new.nodes (flying_of c.in_ok-roomy.roomy) c.reserve.new.self c.conclude_read-said.new.nodes f c.conclude_read-said.new.book c.begin_read_in-did.result) (sym c.put_back.ensures) c.conclude_read-said.ensures.concludes))

pub returns-clause-room : goal.returns-clause-room
returns-clause-room g c =
    let fewer = read_falls (view_of g.D.Disk.seen g.D.Disk.faults g.D.Disk.clock) g.D.Disk.settled c.args.node c.args.call c.args.nodes.now c.begin_read_in-did.new.nodes c.requires.fit c.requires.ready c.begin_read_in-did.result c.begin_read_in-did.ensures.begins
    c.args.flying.now c.args.book.now c.reserve.new.self c.reserve.ensures.entries c.conclude_read-said.new.nodes c.put_back.new.self c.conclude_read-said.new.book c.conclude_read-said.result
    (subst (λ (f : InFlight). ConcludesReading (view_of g.D.Disk.seen g.D.Disk.faults g.D.Disk.clock) c.args.node c.conclude_read-said.result c.begin_read_in-did.new.nodes f c.reserve.new.self c.conclude_read-said.new.nodes c.put_back.new.self c.conclude_read-said.new.book c.begin_read_in-did.result) c.in_ok-roomy.ensures.taken
    (subst (λ (f : InFlight). ConcludesReading (view_of g.D.Disk.seen g.D.Disk.faults g.D.Disk.clock) c.args.node c.conclude_read-said.result c.begin_read_in-did.new.nodes (flying_of c.in_ok-roomy.roomy) c.reserve.new.self c.conclude_read-said.new.nodes f c.conclude_read-said.new.book c.begin_read_in-did.result) (sym c.put_back.ensures) c.conclude_read-said.ensures.concludes)) in
    omega (arith, fewer, c.most_falls.ensures.most, c.in_ok-reserve.ensures.spare, c.conclude_read-said.ensures.spare)
