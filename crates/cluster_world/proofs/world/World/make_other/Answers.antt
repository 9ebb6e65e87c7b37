use Rattle.std.proofs.Common.{Ok, ap, refl, sym, subst}
use Rattle.node_store.specs.Disks.{view_of}
use Rattle.cluster_world.specs.Worlds.{state_of, state_with}
use Rattle.cluster_world.specs.Steps.{StepDid}
use Rattle.cluster_world.specs.Sure.{IsSurelyDone}
use Rattle.cluster_world.specs.declared.step.Said.TheVariants.{Done}
use Rattle.cluster_world.proofs.Ticking.{ticked_did, ticked_settled}
use Rattle.cluster_world.specs.Installs.{installer, AddsInstalls}
use Rattle.cluster_world.proofs.Installs.{nobody_added}
use Rattle.cluster_world.proofs.world.World.make_other.Goals as goal

pub returns-in-Ask-clause-did : goal.returns-in-Ask-clause-did
returns-in-Ask-clause-did g c =
    subst (λ s. StepDid (view_of g.D.Disk.seen g.D.Disk.faults g.D.Disk.clock) c.ask_any.result s (state_of c.args.self.now) (state_with c.ask_any.new.nodes c.args.self.now.flying c.args.self.now.seconds c.ask_any.new.book))
    (sym c.in-Ask.is) (c.ask_any.ensures.did c.args.self.now.flying c.args.self.now.seconds)

pub returns-in-GiveUp-clause-did : goal.returns-in-GiveUp-clause-did
returns-in-GiveUp-clause-did g c =
    subst (λ s. StepDid (view_of g.D.Disk.seen g.D.Disk.faults g.D.Disk.clock) c.give_up_any.result s (state_of c.args.self.now) (state_with c.give_up_any.new.nodes c.give_up_any.new.flying c.args.self.now.seconds c.args.self.now.book))
    (sym c.in-GiveUp.is) (c.give_up_any.ensures.did c.args.self.now.seconds c.args.self.now.book)

pub returns-in-Start-clause-did : goal.returns-in-Start-clause-did
returns-in-Start-clause-did g c =
    subst (λ s. StepDid (view_of g.D.Disk.seen g.D.Disk.faults g.D.Disk.clock) c.start_node.result s (state_of c.args.self.now) (state_with c.start_node.new.nodes c.args.self.now.flying c.args.self.now.seconds c.start_node.new.book))
    (sym c.in-Start.is) (c.start_node.ensures.did c.args.self.now.seconds)

pub returns-in-Drop-clause-did : goal.returns-in-Drop-clause-did
returns-in-Drop-clause-did g c =
    subst (λ s. StepDid (view_of g.D.Disk.seen g.D.Disk.faults g.D.Disk.clock) c.drop_any.result s (state_of c.args.self.now) (state_with c.drop_any.new.nodes c.drop_any.new.flying c.args.self.now.seconds c.args.self.now.book))
    (sym c.in-Drop.is) (c.drop_any.ensures.did c.args.self.now.seconds c.args.self.now.book)

pub returns-in-Crash-clause-did : goal.returns-in-Crash-clause-did
returns-in-Crash-clause-did g c =
    subst (λ s. StepDid (view_of g.D.Disk.seen g.D.Disk.faults g.D.Disk.clock) (Ok Done) s (state_of c.args.self.now) (state_with c.crash_node.new.nodes c.args.self.now.flying c.args.self.now.seconds c.crash_node.new.book))
    (sym c.in-Crash.is) (c.crash_node.ensures.did c.args.self.now.flying c.args.self.now.seconds)

pub returns-in-Lose-clause-did : goal.returns-in-Lose-clause-did
returns-in-Lose-clause-did g c =
    subst (λ s. StepDid (view_of g.D.Disk.seen g.D.Disk.faults g.D.Disk.clock) (Ok Done) s (state_of c.args.self.now) (state_with c.lose_node.new.nodes c.args.self.now.flying c.args.self.now.seconds c.lose_node.new.book))
    (sym c.in-Lose.is) (c.lose_node.ensures.did c.args.self.now.flying c.args.self.now.seconds)

pub returns-in-Post-clause-did : goal.returns-in-Post-clause-did
returns-in-Post-clause-did g c =
    subst (λ s. StepDid (view_of g.D.Disk.seen g.D.Disk.faults g.D.Disk.clock) c.post_any.result s (state_of c.args.self.now) (state_with c.post_any.new.nodes c.post_any.new.flying c.args.self.now.seconds c.post_any.new.book))
    (sym c.in-Post.is) (c.post_any.ensures.did c.args.self.now.seconds)

pub returns-in-Push-clause-did : goal.returns-in-Push-clause-did
returns-in-Push-clause-did g c =
    subst (λ s. StepDid (view_of g.D.Disk.seen g.D.Disk.faults g.D.Disk.clock) c.push_states.result s (state_of c.args.self.now) (state_with c.push_states.new.nodes c.push_states.new.flying c.args.self.now.seconds c.push_states.new.book))
    (sym c.in-Push.is) (c.push_states.ensures.did c.args.self.now.seconds)

pub returns-in-Widen-clause-did : goal.returns-in-Widen-clause-did
returns-in-Widen-clause-did g c =
    subst (λ s. StepDid (view_of g.D.Disk.seen g.D.Disk.faults g.D.Disk.clock) c.widen_copy.result s (state_of c.args.self.now) (state_with c.widen_copy.new.nodes c.args.self.now.flying c.args.self.now.seconds c.widen_copy.new.book))
    (sym c.in-Widen.is) (c.widen_copy.ensures.did c.args.self.now.seconds)

pub returns-in-Group-clause-did : goal.returns-in-Group-clause-did
returns-in-Group-clause-did g c =
    subst (λ s. StepDid (view_of g.D.Disk.seen g.D.Disk.faults g.D.Disk.clock) c.group_node.result s (state_of c.args.self.now) (state_with c.group_node.new.nodes c.group_node.new.flying c.args.self.now.seconds c.group_node.new.book))
    (sym c.in-Group.is) (c.group_node.ensures.did c.args.self.now.seconds)

pub returns-in-Conclude-clause-did : goal.returns-in-Conclude-clause-did
returns-in-Conclude-clause-did g c =
    subst (λ s. StepDid (view_of g.D.Disk.seen g.D.Disk.faults g.D.Disk.clock) c.conclude_node.result s (state_of c.args.self.now) (state_with c.conclude_node.new.nodes c.conclude_node.new.flying c.args.self.now.seconds c.conclude_node.new.book))
    (sym c.in-Conclude.is) (c.conclude_node.ensures.did c.args.self.now.seconds)

pub returns-in-Report-clause-did : goal.returns-in-Report-clause-did
returns-in-Report-clause-did g c =
    subst (λ s. StepDid (view_of g.D.Disk.seen g.D.Disk.faults g.D.Disk.clock) c.report_rows.result s (state_of c.args.self.now) (state_with c.report_rows.new.nodes c.report_rows.new.flying c.args.self.now.seconds c.args.self.now.book))
    (sym c.in-Report.is) (c.report_rows.ensures.did c.args.self.now.seconds c.args.self.now.book)

pub returns-in-Ask-clause-sure : goal.returns-in-Ask-clause-sure
returns-in-Ask-clause-sure g c =
    subst (λ s. IsSurelyDone (state_of c.args.self.now) s c.ask_any.result) (sym c.in-Ask.is) (c.ask_any.ensures.sure c.args.self.now.flying c.args.self.now.seconds)

pub returns-in-GiveUp-clause-sure : goal.returns-in-GiveUp-clause-sure
returns-in-GiveUp-clause-sure g c =
    subst (λ s. IsSurelyDone (state_of c.args.self.now) s c.give_up_any.result) (sym c.in-GiveUp.is) (c.give_up_any.ensures.sure c.args.self.now.seconds c.args.self.now.book)

pub returns-in-Drop-clause-sure : goal.returns-in-Drop-clause-sure
returns-in-Drop-clause-sure g c =
    subst (λ s. IsSurelyDone (state_of c.args.self.now) s c.drop_any.result) (sym c.in-Drop.is) (c.drop_any.ensures.sure c.args.self.now.seconds c.args.self.now.book)

pub returns-in-Tick-clause-did : goal.returns-in-Tick-clause-did
returns-in-Tick-clause-did g c =
    subst (λ s. StepDid (view_of g.D.Disk.seen g.D.Disk.faults g.D.Disk.clock) (Ok Done) s (state_of c.args.self.now) (state_with c.args.self.now.nodes c.args.self.now.flying c.in-Tick.seconds c.args.self.now.book))
    (sym c.in-Tick.is) (ticked_did (view_of g.D.Disk.seen g.D.Disk.faults g.D.Disk.clock) c.args.self.now.nodes c.args.self.now.flying c.args.self.now.book c.args.self.now.seconds c.in-Tick.seconds)

pub returns-in-Tick-clause-settled : goal.returns-in-Tick-clause-settled
returns-in-Tick-clause-settled g c =
    ticked_settled (view_of g.D.Disk.seen g.D.Disk.faults g.D.Disk.clock) c.args.self.now.nodes c.args.self.now.flying c.args.self.now.book c.args.self.now.seconds c.in-Tick.seconds g.D.Disk.settled

pub returns-in-Ask-clause-installs : goal.returns-in-Ask-clause-installs
returns-in-Ask-clause-installs g c =
    let flights = c.args.self.now.flying.flights in
    nobody_added c.args.step.now flights c.args.self.now.nodes.lives.items c.ask_any.new.nodes.lives.items c.args.self.now.book c.ask_any.new.book (ap (λ s. installer s flights) c.in-Ask.is) c.ask_any.ensures.installs

pub returns-in-GiveUp-clause-installs : goal.returns-in-GiveUp-clause-installs
returns-in-GiveUp-clause-installs g c =
    let flights = c.args.self.now.flying.flights in
    nobody_added c.args.step.now flights c.args.self.now.nodes.lives.items c.give_up_any.new.nodes.lives.items c.args.self.now.book c.args.self.now.book (ap (λ s. installer s flights) c.in-GiveUp.is) refl

pub returns-in-Start-clause-installs : goal.returns-in-Start-clause-installs
returns-in-Start-clause-installs g c =
    let flights = c.args.self.now.flying.flights in
    nobody_added c.args.step.now flights c.args.self.now.nodes.lives.items c.start_node.new.nodes.lives.items c.args.self.now.book c.start_node.new.book (ap (λ s. installer s flights) c.in-Start.is) c.start_node.ensures.installs

pub returns-in-Drop-clause-installs : goal.returns-in-Drop-clause-installs
returns-in-Drop-clause-installs g c =
    let flights = c.args.self.now.flying.flights in
    nobody_added c.args.step.now flights c.args.self.now.nodes.lives.items c.drop_any.new.nodes.lives.items c.args.self.now.book c.args.self.now.book (ap (λ s. installer s flights) c.in-Drop.is) refl

pub returns-in-Report-clause-installs : goal.returns-in-Report-clause-installs
returns-in-Report-clause-installs g c =
    let flights = c.args.self.now.flying.flights in
    nobody_added c.args.step.now flights c.args.self.now.nodes.lives.items c.report_rows.new.nodes.lives.items c.args.self.now.book c.args.self.now.book (ap (λ s. installer s flights) c.in-Report.is) refl

pub returns-in-Crash-clause-installs : goal.returns-in-Crash-clause-installs
returns-in-Crash-clause-installs g c =
    let flights = c.args.self.now.flying.flights in
    nobody_added c.args.step.now flights c.args.self.now.nodes.lives.items c.crash_node.new.nodes.lives.items c.args.self.now.book c.crash_node.new.book (ap (λ s. installer s flights) c.in-Crash.is) c.crash_node.ensures.installs

pub returns-in-Lose-clause-installs : goal.returns-in-Lose-clause-installs
returns-in-Lose-clause-installs g c =
    let flights = c.args.self.now.flying.flights in
    nobody_added c.args.step.now flights c.args.self.now.nodes.lives.items c.lose_node.new.nodes.lives.items c.args.self.now.book c.lose_node.new.book (ap (λ s. installer s flights) c.in-Lose.is) c.lose_node.ensures.installs

pub returns-in-Push-clause-installs : goal.returns-in-Push-clause-installs
returns-in-Push-clause-installs g c =
    let flights = c.args.self.now.flying.flights in
    nobody_added c.args.step.now flights c.args.self.now.nodes.lives.items c.push_states.new.nodes.lives.items c.args.self.now.book c.push_states.new.book (ap (λ s. installer s flights) c.in-Push.is) c.push_states.ensures.installs

pub returns-in-Widen-clause-installs : goal.returns-in-Widen-clause-installs
returns-in-Widen-clause-installs g c =
    let flights = c.args.self.now.flying.flights in
    nobody_added c.args.step.now flights c.args.self.now.nodes.lives.items c.widen_copy.new.nodes.lives.items c.args.self.now.book c.widen_copy.new.book (ap (λ s. installer s flights) c.in-Widen.is) c.widen_copy.ensures.installs

pub returns-in-Group-clause-installs : goal.returns-in-Group-clause-installs
returns-in-Group-clause-installs g c =
    let flights = c.args.self.now.flying.flights in
    nobody_added c.args.step.now flights c.args.self.now.nodes.lives.items c.group_node.new.nodes.lives.items c.args.self.now.book c.group_node.new.book (ap (λ s. installer s flights) c.in-Group.is) c.group_node.ensures.installs

pub returns-in-Tick-clause-installs : goal.returns-in-Tick-clause-installs
returns-in-Tick-clause-installs g c =
    let flights = c.args.self.now.flying.flights in
    nobody_added c.args.step.now flights c.args.self.now.nodes.lives.items c.args.self.now.nodes.lives.items c.args.self.now.book c.args.self.now.book (ap (λ s. installer s flights) c.in-Tick.is) refl

pub returns-in-Post-clause-installs : goal.returns-in-Post-clause-installs
returns-in-Post-clause-installs g c =
    subst (λ s. AddsInstalls s c.args.self.now.flying.flights c.args.self.now.nodes.lives.items c.args.self.now.book c.post_any.new.nodes.lives.items c.post_any.new.book) (sym c.in-Post.is) c.post_any.ensures.installs

pub returns-in-Conclude-clause-installs : goal.returns-in-Conclude-clause-installs
returns-in-Conclude-clause-installs g c =
    subst (λ s. AddsInstalls s c.args.self.now.flying.flights c.args.self.now.nodes.lives.items c.args.self.now.book c.conclude_node.new.nodes.lives.items c.conclude_node.new.book) (sym c.in-Conclude.is) c.conclude_node.ensures.installs
