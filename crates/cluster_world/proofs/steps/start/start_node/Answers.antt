use Rattle.std.proofs.Common.{◌∙◌, ◌++◌, ap, refl, subst, sym, arith, nat_le}
use Rattle.cluster_model.specs.Steps.{letters_end}
use Rattle.std.proofs.lemmas.Result.{err_from_is_err_and}
use Rattle.node_store.specs.Disks.{view_of}
use Rattle.cluster_world.specs.Starting.{entries_of_start}
use Rattle.cluster_world.specs.Worlds.{state_with}
use Rattle.cluster_world.specs.Steps.{StepDid}
use Rattle.cluster_world.specs.declared.step.Step.TheVariants as step
use Rattle.cluster_world.proofs.Same.{none_done}
use Rattle.cluster_world.proofs.Asked.{same_book}
use Rattle.cluster_world.proofs.Starts.{start_did, start_late, start_ready, start_settled, start_room}
use Rattle.cluster_world.specs.Installs.{installs_in}
use Rattle.cluster_world.proofs.steps.start.start_node.Goals as goal

pub returns-then-is_worn-clause-did : goal.returns-then-is_worn-clause-did
returns-then-is_worn-clause-did g c = λ seconds.
    start_late (view_of g.D.Disk.seen g.D.Disk.faults g.D.Disk.clock) c.args.node c.args.nodes.now c.requires.fit c.args.flying.now seconds c.args.book.now (ap (nat_le letters_end) (sym c.sent.ensures) ∙ sym c.is_worn.ensures ∙ c.if-is_worn.true)

pub returns-in_err-reserve-clause-did : goal.returns-in_err-reserve-clause-did
returns-in_err-reserve-clause-did g c = λ seconds.
    let on = view_of g.D.Disk.seen g.D.Disk.faults g.D.Disk.clock in
    let s = state_with c.args.nodes.now c.args.flying.now seconds c.args.book.now in
    let p = err_from_is_err_and c.from_residual.result c.from_residual.ensures.1 in
    rw (p.1, p.2) (same_book on _ (step.Start c.args.node) c.args.nodes.now c.args.nodes.now c.args.flying.now seconds c.args.book.now c.reserve.new.self c.reserve.ensures.entries (none_done on s (step.Start c.args.node)))

pub returns-clause-did : goal.returns-clause-did
returns-clause-did g c = λ seconds.
    let on = view_of g.D.Disk.seen g.D.Disk.faults g.D.Disk.clock in
    subst (λ r. StepDid on r (step.Start c.args.node) (state_with c.args.nodes.now c.args.flying.now seconds c.args.book.now) (state_with c.start-started.new.self c.args.flying.now seconds c.tell.new.book)) (sym c.tell.ensures.said)
    (start_did on g.D.Disk.settled g.met.D.Disk.settled_is_only c.args.node c.args.nodes.now c.start-started.new.self c.requires.fit c.start-started.result c.start-started.ensures c.args.flying.now seconds c.args.book.now c.tell.new.book
    (ap (nat_le letters_end) (sym c.sent.ensures) ∙ sym c.is_worn.ensures ∙ c.if-is_worn.false) (c.tell.ensures.entries ∙ ap (λ b. b ++ entries_of_start c.args.node c.start-started.result) c.reserve.ensures.entries) c.start-started.result refl)

pub returns-clause-ready : goal.returns-clause-ready
returns-clause-ready g c =
    start_ready (view_of g.D.Disk.seen g.D.Disk.faults g.D.Disk.clock) g.D.Disk.settled g.met.D.Disk.settled_is_only c.args.node c.args.nodes.now c.start-started.new.self c.requires.fit c.start-started.result c.start-started.ensures

pub returns-clause-settled : goal.returns-clause-settled
returns-clause-settled g c = λ seconds.
    start_settled (view_of g.D.Disk.seen g.D.Disk.faults g.D.Disk.clock) g.D.Disk.settled g.met.D.Disk.settled_is_only c.args.node c.args.nodes.now c.start-started.new.self c.requires.fit c.start-started.result c.start-started.ensures
    c.args.flying.now seconds c.args.book.now c.tell.new.book

pub returns-clause-room : goal.returns-clause-room
returns-clause-room g c =
    start_room (view_of g.D.Disk.seen g.D.Disk.faults g.D.Disk.clock) g.D.Disk.settled g.met.D.Disk.settled_is_only c.args.node c.args.nodes.now c.start-started.new.self c.requires.fit c.start-started.result c.start-started.ensures
    _ c.most_falls.result c.most_falls.ensures.most (omega (arith, c.in_ok-reserve.ensures.spare, c.tell.ensures.spare))

pub returns-clause-installs : goal.returns-clause-installs
returns-clause-installs g c = c.tell.ensures.installs ∙ ap installs_in c.reserve.ensures.entries
