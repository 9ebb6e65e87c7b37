use Rattle.std.proofs.Common.{◌∙◌, ◌++◌, ap, refl, subst, sym, arith, nat_le}
use Rattle.cluster_model.specs.Steps.{letters_end}
use Rattle.std.proofs.lemmas.Result.{err_from_is_err_and}
use Rattle.node_store.specs.Disks.{view_of}
use Rattle.cluster_world.specs.Widens.{entries_of_widening}
use Rattle.cluster_world.specs.Worlds.{state_with}
use Rattle.cluster_world.specs.Steps.{StepDid}
use Rattle.cluster_world.specs.declared.step.Step.TheVariants as step
use Rattle.cluster_world.proofs.Same.{none_done}
use Rattle.cluster_world.proofs.Asked.{same_book}
use Rattle.cluster_world.proofs.Widening.{widened_did, widened_ready, widened_falls, widened_settled, widening_late}
use Rattle.cluster_world.specs.Installs.{installs_in}
use Rattle.cluster_world.proofs.steps.widen.widen_copy.Goals as goal

pub returns-then-is_worn-clause-did : goal.returns-then-is_worn-clause-did
returns-then-is_worn-clause-did g c = λ seconds.
    widening_late (view_of g.D.Disk.seen g.D.Disk.faults g.D.Disk.clock) c.args.at c.args.to c.args.user.now c.args.id c.args.nodes.now c.requires.fit c.requires.ready c.args.flying.now seconds c.args.book.now
    (ap (nat_le letters_end) (sym c.sent.ensures) ∙ sym c.is_worn.ensures ∙ c.if-is_worn.true)

pub returns-in_err-reserve-clause-did : goal.returns-in_err-reserve-clause-did
returns-in_err-reserve-clause-did g c = λ seconds.
    let on = view_of g.D.Disk.seen g.D.Disk.faults g.D.Disk.clock in
    let s = state_with c.args.nodes.now c.args.flying.now seconds c.args.book.now in
    let p = err_from_is_err_and c.from_residual.result c.from_residual.ensures.1 in
    rw (p.1, p.2) (same_book on _ (step.Widen c.args.at c.args.user.now c.args.id c.args.to) c.args.nodes.now c.args.nodes.now c.args.flying.now seconds c.args.book.now c.reserve.new.self c.reserve.ensures.entries
    (none_done on s (step.Widen c.args.at c.args.user.now c.args.id c.args.to)))

pub returns-clause-did : goal.returns-clause-did
returns-clause-did g c = λ seconds.
    let on = view_of g.D.Disk.seen g.D.Disk.faults g.D.Disk.clock in
    subst (λ r. StepDid on r (step.Widen c.args.at c.args.user.now c.args.id c.args.to) (state_with c.args.nodes.now c.args.flying.now seconds c.args.book.now) (state_with c.widen_in-did.new.nodes c.args.flying.now seconds c.tell.new.book))
    (sym c.tell.ensures.said)
    (widened_did on c.args.at c.args.to c.args.user.now c.args.id c.args.nodes.now c.requires.fit c.requires.ready g.D.Disk.settled c.widen_in-did.new.nodes c.widen_in-did.result c.widen_in-did.ensures
    c.args.flying.now seconds c.args.book.now c.tell.new.book (ap (nat_le letters_end) (sym c.sent.ensures) ∙ sym c.is_worn.ensures ∙ c.if-is_worn.false)
    (c.tell.ensures.entries ∙ ap (λ b. b ++ entries_of_widening c.args.at c.widen_in-did.result) c.reserve.ensures.entries) c.widen_in-did.result refl)

pub returns-clause-ready : goal.returns-clause-ready
returns-clause-ready g c =
    widened_ready (view_of g.D.Disk.seen g.D.Disk.faults g.D.Disk.clock) c.args.at c.args.to c.args.user.now c.args.id c.args.nodes.now c.requires.fit c.requires.ready g.D.Disk.settled c.widen_in-did.new.nodes c.widen_in-did.result c.widen_in-did.ensures
    c.widen_in-did.result refl

pub returns-clause-settled : goal.returns-clause-settled
returns-clause-settled g c = λ seconds.
    widened_settled (view_of g.D.Disk.seen g.D.Disk.faults g.D.Disk.clock) c.args.at c.args.to c.args.user.now c.args.id c.args.nodes.now c.requires.fit c.requires.ready g.D.Disk.settled c.widen_in-did.new.nodes c.widen_in-did.result c.widen_in-did.ensures
    c.args.flying.now seconds c.args.book.now c.tell.new.book c.widen_in-did.result refl

pub returns-clause-room : goal.returns-clause-room
returns-clause-room g c =
    omega (
      arith,
      c.most_falls.ensures.most,
      c.in_ok-reserve.ensures.spare,
      c.tell.ensures.spare,
      widened_falls (view_of g.D.Disk.seen g.D.Disk.faults g.D.Disk.clock) c.args.at c.args.to c.args.user.now c.args.id c.args.nodes.now c.requires.fit c.requires.ready g.D.Disk.settled c.widen_in-did.new.nodes c.widen_in-did.result c.widen_in-did.ensures
          c.widen_in-did.result refl,
    )

pub returns-clause-installs : goal.returns-clause-installs
returns-clause-installs g c = c.tell.ensures.installs ∙ ap installs_in c.reserve.ensures.entries
