use Rattle.std.proofs.Common.{◌≡◌, ◌∙◌, refl, sym, ap, subst, nat_le}
use Rattle.std.proofs.lemmas.Result.{err_from_is_err_and}
use Rattle.cluster_model.specs.Steps.{letters_end}
use Rattle.node_store.specs.Disks.{view_of}
use Rattle.cluster_world.specs.Flights.{InFlight}
use Rattle.cluster_world.specs.Reading.{flying_of}
use Rattle.cluster_world.specs.Steps.{StepDid}
use Rattle.cluster_world.specs.Worlds.{state_with}
use Rattle.cluster_world.specs.declared.step.Step.TheVariants as step
use Rattle.cluster_world.proofs.Posting.{no_letter_posted}
use Rattle.cluster_world.proofs.ReadEnds.{worn_read}
use Rattle.cluster_world.proofs.Same.{none_done}
use Rattle.cluster_world.proofs.steps.post_read.post_read.Goals as goal

pub returns-in_default-clause-did : goal.returns-in_default-clause-did
returns-in_default-clause-did g c = λ seconds. no_letter_posted (view_of g.D.Disk.seen g.D.Disk.faults g.D.Disk.clock) c.args.nodes.now c.args.flying.now seconds c.args.book.now c.args.number c.args.keep (sym c.in_default.ensures.is)

pub returns-then-is_worn-clause-did : goal.returns-then-is_worn-clause-did
returns-then-is_worn-clause-did g c = λ seconds. worn_read (view_of g.D.Disk.seen g.D.Disk.faults g.D.Disk.clock) c.args.nodes.now c.args.flying.now seconds c.args.book.now c.args.number c.args.keep c.in-Some.field-0.now (sym c.in-Some.ensures.is) c.in-Some.ensures.order
    (ap (nat_le letters_end) (sym c.sent.ensures) ∙ sym c.is_worn.ensures ∙ c.if-is_worn.true)

pub returns-in_err-queue-clause-did : goal.returns-in_err-queue-clause-did
returns-in_err-queue-clause-did g c = λ seconds.
    let p = err_from_is_err_and c.from_residual.result c.from_residual.ensures.1 in
    rw (p.1, p.2) (none_done (view_of g.D.Disk.seen g.D.Disk.faults g.D.Disk.clock) (state_with c.args.nodes.now c.args.flying.now seconds c.args.book.now) (step.Post c.args.number c.args.keep))

pub returns-in_err-roomy-clause-did : goal.returns-in_err-roomy-clause-did
returns-in_err-roomy-clause-did g c = λ seconds.
    let p = err_from_is_err_and c.from_residual-in_err-roomy.result c.from_residual-in_err-roomy.ensures.1 in
    rw (p.1, p.2, c.in_err-roomy.ensures.err) (none_done (view_of g.D.Disk.seen g.D.Disk.faults g.D.Disk.clock) (state_with c.args.nodes.now c.args.flying.now seconds c.args.book.now) (step.Post c.args.number c.args.keep))

pub returns-clause-did : goal.returns-clause-did
returns-clause-did g c = λ seconds.
    subst (λ (now : InFlight). StepDid (view_of g.D.Disk.seen g.D.Disk.faults g.D.Disk.clock) c.hand_read-said.result (step.Post c.args.number c.args.keep) (state_with c.args.nodes.now c.args.flying.now seconds c.args.book.now) (state_with c.hand_read-said.new.nodes now seconds c.hand_read-said.new.book))
    (sym c.put_back.ensures)
    (subst (λ (was : InFlight). StepDid (view_of g.D.Disk.seen g.D.Disk.faults g.D.Disk.clock) c.hand_read-said.result (step.Post c.args.number c.args.keep) (state_with c.args.nodes.now was seconds c.args.book.now) (state_with c.hand_read-said.new.nodes (flying_of c.hand_read-said.new.roomy) seconds c.hand_read-said.new.book))
    c.in_ok-roomy.ensures.taken (c.hand_read-said.ensures.did seconds))
