use Rattle.std.proofs.Common.{◌∙◌, refl, sym, arith, ap, nat_le}
use Rattle.cluster_model.specs.Steps.{letters_end}
use Rattle.std.proofs.lemmas.Result.{err_from_is_err_and}
use Rattle.node_store.specs.Disks.{view_of}
use Rattle.cluster_world.specs.Worlds.{state_with}
use Rattle.cluster_world.specs.declared.step.Step.TheVariants as step
use Rattle.cluster_world.proofs.Same.{none_done}
use Rattle.cluster_world.proofs.Asked.{same_book}
use Rattle.cluster_world.proofs.BeginParts.{begin_ready, begin_heard}
use Rattle.cluster_world.proofs.BeginEnds.{begin_late, begun_did, concluded_ready, concluded_room, concluded_settled}
use Rattle.cluster_world.specs.Installs.{installs_in}
use Rattle.cluster_world.proofs.Installs.{begin_adds_none}
use Rattle.cluster_world.proofs.steps.begin.begin_call.Goals as goal

pub returns-then-is_worn-clause-did : goal.returns-then-is_worn-clause-did
returns-then-is_worn-clause-did g c =
    begin_late (view_of g.D.Disk.seen g.D.Disk.faults g.D.Disk.clock) c.args.node c.args.call c.args.seconds c.args.nodes.now c.requires.fit c.args.flying.now c.args.book.now (ap (nat_le letters_end) (sym c.sent.ensures) ∙ sym c.is_worn.ensures ∙ c.if-is_worn.true)

pub returns-in_err-entries-clause-did : goal.returns-in_err-entries-clause-did
returns-in_err-entries-clause-did g c =
    let on = view_of g.D.Disk.seen g.D.Disk.faults g.D.Disk.clock in
    let s = state_with c.args.nodes.now c.args.flying.now c.args.seconds c.args.book.now in
    let p = err_from_is_err_and c.from_residual.result c.from_residual.ensures.1 in
    rw (p.1, p.2) (none_done on s (step.Begin c.args.node c.args.call))

pub returns-in_err-reserve-clause-did : goal.returns-in_err-reserve-clause-did
returns-in_err-reserve-clause-did g c =
    let on = view_of g.D.Disk.seen g.D.Disk.faults g.D.Disk.clock in
    let s = state_with c.args.nodes.now c.args.flying.now c.args.seconds c.args.book.now in
    let p = err_from_is_err_and c.from_residual-in_err-reserve.result c.from_residual-in_err-reserve.ensures.1 in
    rw (p.1, p.2) (same_book on _ (step.Begin c.args.node c.args.call) c.args.nodes.now c.args.nodes.now c.args.flying.now c.args.seconds c.args.book.now c.reserve.new.self c.reserve.ensures.entries (none_done on s (step.Begin c.args.node c.args.call)))

pub returns-then-not-text_is_ended-clause-did : goal.returns-then-not-text_is_ended-clause-did
returns-then-not-text_is_ended-clause-did g c =
    none_done (view_of g.D.Disk.seen g.D.Disk.faults g.D.Disk.clock) (state_with c.args.nodes.now c.args.flying.now c.args.seconds c.args.book.now) (step.Begin c.args.node c.args.call)

pub conclude-requires-clause-works : goal.conclude-requires-clause-works
conclude-requires-clause-works g c =
    begin_ready (view_of g.D.Disk.seen g.D.Disk.faults g.D.Disk.clock) g.D.Disk.settled c.args.node c.args.call c.args.seconds c.args.nodes.now c.begin_in-did.new.nodes c.requires.fit c.requires.ready c.begin_in-did.result c.begin_in-did.ensures.begins

pub conclude-requires-clause-heard : goal.conclude-requires-clause-heard
conclude-requires-clause-heard g c =
    begin_heard (view_of g.D.Disk.seen g.D.Disk.faults g.D.Disk.clock) g.D.Disk.settled c.args.node c.args.call c.args.seconds c.args.nodes.now c.begin_in-did.new.nodes c.requires.fit c.requires.ready c.begin_in-did.result c.begin_in-did.ensures.begins
    c.begin_in-did.result refl c.begin_in-did.ensures.fits

pub returns-clause-did : goal.returns-clause-did
returns-clause-did g c =
    begun_did (view_of g.D.Disk.seen g.D.Disk.faults g.D.Disk.clock) g.D.Disk.settled c.args.node c.args.call c.args.seconds c.args.nodes.now c.begin_in-did.new.nodes c.requires.fit c.requires.ready c.begin_in-did.result c.begin_in-did.ensures.begins
    c.args.flying.now c.args.book.now (ap (nat_le letters_end) (sym c.sent.ensures) ∙ sym c.is_worn.ensures ∙ c.if-is_worn.false) c.requires.mail c.in_ok-entries.entries.items c.in_ok-entries.ensures.seen c.reserve.new.self c.reserve.ensures.entries
    c.conclude.new.nodes c.conclude.new.flying c.conclude.new.book c.conclude.result c.conclude.ensures.concludes

pub returns-clause-ready : goal.returns-clause-ready
returns-clause-ready g c =
    concluded_ready (view_of g.D.Disk.seen g.D.Disk.faults g.D.Disk.clock) g.D.Disk.settled c.args.node c.args.call c.args.seconds c.args.nodes.now c.begin_in-did.new.nodes c.requires.fit c.requires.ready c.begin_in-did.result c.begin_in-did.ensures.begins
    c.in_ok-entries.entries.items c.conclude.result c.args.flying.now c.reserve.new.self c.conclude.new.nodes c.conclude.new.flying c.conclude.new.book c.conclude.ensures.concludes

pub returns-clause-settled : goal.returns-clause-settled
returns-clause-settled g c =
    concluded_settled (view_of g.D.Disk.seen g.D.Disk.faults g.D.Disk.clock) g.D.Disk.settled c.args.node c.args.call c.args.seconds c.args.nodes.now c.begin_in-did.new.nodes c.requires.fit c.requires.ready c.begin_in-did.result c.begin_in-did.ensures.begins
    c.in_ok-entries.entries.items c.conclude.result c.args.flying.now c.reserve.new.self c.conclude.new.nodes c.conclude.new.flying c.conclude.new.book c.args.book.now c.conclude.ensures.concludes

pub returns-clause-room : goal.returns-clause-room
returns-clause-room g c =
    concluded_room (view_of g.D.Disk.seen g.D.Disk.faults g.D.Disk.clock) g.D.Disk.settled c.args.node c.args.call c.args.seconds c.args.nodes.now c.begin_in-did.new.nodes c.requires.fit c.requires.ready c.begin_in-did.result c.begin_in-did.ensures.begins
    c.in_ok-entries.entries.items c.conclude.result c.args.flying.now c.reserve.new.self c.conclude.new.nodes c.conclude.new.flying c.conclude.new.book c.conclude.ensures.concludes
    c.most_falls.result _ c.most_falls.ensures.most (omega (arith, c.in_ok-reserve.ensures.spare, c.conclude.ensures.spare, c.len.ensures))

pub returns-clause-installs : goal.returns-clause-installs
returns-clause-installs g c =
    begin_adds_none (view_of g.D.Disk.seen g.D.Disk.faults g.D.Disk.clock) c.args.node c.in_ok-entries.entries.items c.conclude.result c.begin_in-did.new.nodes c.args.flying.now c.reserve.new.self
    c.conclude.new.nodes c.conclude.new.flying c.conclude.new.book c.begin_in-did.result c.in_ok-entries.ensures.installs c.conclude.ensures.concludes
    ∙ ap installs_in c.reserve.ensures.entries
