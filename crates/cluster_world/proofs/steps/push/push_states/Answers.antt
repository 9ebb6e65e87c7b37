use Rattle.std.proofs.Common.{◌∙◌, ◌++◌, List, ap, refl, subst, sym, arith, nat_le}
use Rattle.object_model.specs.Letters.{Letter}
use Rattle.cluster_world.specs.Hears.{AllCanBeHeard}
use Rattle.cluster_model.specs.Steps.{letters_end}
use Rattle.std.proofs.lemmas.Result.{err_from_is_err_and}
use Rattle.node_store.specs.Disks.{view_of}
use Rattle.cluster_world.specs.Pushes.{letters_left_by, octets_left_by, IsCrowdedAt}
use Rattle.cluster_world.specs.Unfinished.{entries_of_fault}
use Rattle.cluster_world.specs.Worlds.{state_with}
use Rattle.cluster_world.specs.Steps.{StepDid}
use Rattle.cluster_world.specs.declared.step.Step.TheVariants as step
use Rattle.cluster_world.proofs.Same.{none_done}
use Rattle.cluster_world.proofs.Asked.{same_book}
use Rattle.cluster_world.proofs.Pushing.{push_late, push_crowded, push_whole, counted_room, counted_crowd, pushed_heard, pushed_ready, pushed_falls, pushed_settled, push_failed, sending_did, sending_ready, sending_falls, sending_settled}
use Rattle.cluster_world.specs.Installs.{installs_in}
use Rattle.cluster_world.proofs.steps.push.push_states.Goals as goal

pub returns-then-is_worn-clause-did : goal.returns-then-is_worn-clause-did
returns-then-is_worn-clause-did g c = λ seconds.
    push_late (view_of g.D.Disk.seen g.D.Disk.faults g.D.Disk.clock) c.args.from c.args.to c.args.nodes.now c.requires.fit c.requires.ready c.args.flying.now seconds c.args.book.now (ap (nat_le letters_end) (sym c.sent.ensures) ∙ sym c.is_worn.ensures ∙ c.if-is_worn.true)

pub is_crowded_at-requires : goal.is_crowded_at-requires
is_crowded_at-requires g c =
    record { up = push_whole (view_of g.D.Disk.seen g.D.Disk.faults g.D.Disk.clock) c.args.from c.args.to c.args.nodes.now c.requires.fit c.requires.ready c.at.result.now c.at.ensures }

pub returns-in_err-is_crowded_at-clause-did : goal.returns-in_err-is_crowded_at-clause-did
returns-in_err-is_crowded_at-clause-did g c = λ seconds.
    let on = view_of g.D.Disk.seen g.D.Disk.faults g.D.Disk.clock in
    let s = state_with c.args.nodes.now c.args.flying.now seconds c.args.book.now in
    let p = err_from_is_err_and c.from_residual.result c.from_residual.ensures.1 in
    rw (p.1, p.2) (none_done on s (step.Push c.args.from c.args.to))

pub returns-then-branch-clause-did : goal.returns-then-branch-clause-did
returns-then-branch-clause-did g c = λ seconds.
    let flights = c.args.flying.now.flights in
    let crowded : IsCrowdedAt c.args.to (letters_left_by flights) (octets_left_by flights) _ c.at.result.now =
    counted_crowd c.args.to _ _ _ _ _ c.at.result.now c.letters_left-most.ensures c.octets_left-room.ensures c.in_ok-is_crowded_at.ensures in
    push_crowded (view_of g.D.Disk.seen g.D.Disk.faults g.D.Disk.clock) c.args.from c.args.to c.args.nodes.now c.requires.fit c.requires.ready c.args.flying.now seconds c.args.book.now c.at.result.now c.at.ensures
    (ap (nat_le letters_end) (sym c.sent.ensures) ∙ sym c.is_worn.ensures ∙ c.if-is_worn.false) (subst (λ b. IsCrowdedAt c.args.to (letters_left_by flights) (octets_left_by flights) b c.at.result.now) c.if-branch.true crowded)

pub returns-in_err-reserve-clause-did : goal.returns-in_err-reserve-clause-did
returns-in_err-reserve-clause-did g c = λ seconds.
    let on = view_of g.D.Disk.seen g.D.Disk.faults g.D.Disk.clock in
    let s = state_with c.args.nodes.now c.args.flying.now seconds c.args.book.now in
    let p = err_from_is_err_and c.from_residual-in_err-reserve.result c.from_residual-in_err-reserve.ensures.1 in
    rw (p.1, p.2) (same_book on _ (step.Push c.args.from c.args.to) c.args.nodes.now c.args.nodes.now c.args.flying.now seconds c.args.book.now c.reserve.new.self c.reserve.ensures.entries (none_done on s (step.Push c.args.from c.args.to)))

pub send_pushed-requires-clause-works : goal.send_pushed-requires-clause-works
send_pushed-requires-clause-works g c =
    let on = view_of g.D.Disk.seen g.D.Disk.faults g.D.Disk.clock in
    let ch = counted_room on g.D.Disk.settled c.args.from c.args.to _ _ _ _ c.push_in.result c.args.nodes.now c.push_in.new.nodes c.letters_left-most.ensures c.octets_left-room.ensures c.push_in.ensures.pushes in
    pushed_ready on c.args.from c.args.to c.args.nodes.now c.requires.fit c.requires.ready g.D.Disk.settled c.args.flying.now c.push_in.new.nodes c.push_in.result ch c.push_in.result refl

pub send_pushed-requires-clause-heard : goal.send_pushed-requires-clause-heard
send_pushed-requires-clause-heard g c =
    let on = view_of g.D.Disk.seen g.D.Disk.faults g.D.Disk.clock in
    let ch = counted_room on g.D.Disk.settled c.args.from c.args.to _ _ _ _ c.push_in.result c.args.nodes.now c.push_in.new.nodes c.letters_left-most.ensures c.octets_left-room.ensures c.push_in.ensures.pushes in
    subst (λ (letters : List Letter). AllCanBeHeard letters) (sym c.into_vec.ensures)
    (pushed_heard on c.args.from c.args.to c.args.nodes.now c.requires.fit c.requires.ready g.D.Disk.settled c.args.flying.now c.push_in.new.nodes c.push_in.result ch c.in-Ok.outbox c.in-Ok.is c.push_in.ensures.fits)

pub returns-in-Ok-clause-did : goal.returns-in-Ok-clause-did
returns-in-Ok-clause-did g c = λ seconds.
    let on = view_of g.D.Disk.seen g.D.Disk.faults g.D.Disk.clock in
    let flights = c.args.flying.now.flights in
    let ch = counted_room on g.D.Disk.settled c.args.from c.args.to _ _ _ _ c.push_in.result c.args.nodes.now c.push_in.new.nodes c.letters_left-most.ensures c.octets_left-room.ensures c.push_in.ensures.pushes in
    let crowded : IsCrowdedAt c.args.to (letters_left_by flights) (octets_left_by flights) _ c.at.result.now =
    counted_crowd c.args.to _ _ _ _ _ c.at.result.now c.letters_left-most.ensures c.octets_left-room.ensures c.in_ok-is_crowded_at.ensures in
    sending_did on c.args.from c.args.to c.args.nodes.now c.requires.fit c.requires.ready g.D.Disk.settled c.args.flying.now c.push_in.new.nodes c.push_in.result ch
    seconds c.args.book.now c.reserve.new.self c.in-Ok.outbox c.in-Ok.is c.into_vec.result.items c.into_vec.ensures c.send_pushed.new.nodes c.send_pushed.new.flying
    c.at.result.now c.at.ensures (ap (nat_le letters_end) (sym c.sent.ensures) ∙ sym c.is_worn.ensures ∙ c.if-is_worn.false) (subst (λ b. IsCrowdedAt c.args.to (letters_left_by flights) (octets_left_by flights) b c.at.result.now) c.if-branch.false crowded)
    c.reserve.ensures.entries c.send_pushed.result c.send_pushed.ensures.ok c.send_pushed.ensures.err

pub returns-in-Ok-clause-ready : goal.returns-in-Ok-clause-ready
returns-in-Ok-clause-ready g c =
    let on = view_of g.D.Disk.seen g.D.Disk.faults g.D.Disk.clock in
    let ch = counted_room on g.D.Disk.settled c.args.from c.args.to _ _ _ _ c.push_in.result c.args.nodes.now c.push_in.new.nodes c.letters_left-most.ensures c.octets_left-room.ensures c.push_in.ensures.pushes in
    sending_ready on c.args.from c.args.to c.args.nodes.now c.requires.fit c.requires.ready g.D.Disk.settled c.args.flying.now c.push_in.new.nodes c.push_in.result ch
    0 c.args.book.now c.reserve.new.self c.in-Ok.outbox c.in-Ok.is c.into_vec.result.items c.into_vec.ensures c.send_pushed.new.nodes c.send_pushed.new.flying c.send_pushed.result c.send_pushed.ensures.ok c.send_pushed.ensures.err

pub returns-in-Ok-clause-settled : goal.returns-in-Ok-clause-settled
returns-in-Ok-clause-settled g c = λ seconds.
    let on = view_of g.D.Disk.seen g.D.Disk.faults g.D.Disk.clock in
    let ch = counted_room on g.D.Disk.settled c.args.from c.args.to _ _ _ _ c.push_in.result c.args.nodes.now c.push_in.new.nodes c.letters_left-most.ensures c.octets_left-room.ensures c.push_in.ensures.pushes in
    sending_settled on c.args.from c.args.to c.args.nodes.now c.requires.fit c.requires.ready g.D.Disk.settled c.args.flying.now c.push_in.new.nodes c.push_in.result ch
    seconds c.args.book.now c.reserve.new.self c.in-Ok.outbox c.in-Ok.is c.into_vec.result.items c.into_vec.ensures c.send_pushed.new.nodes c.send_pushed.new.flying c.send_pushed.result c.send_pushed.ensures.ok c.send_pushed.ensures.err

pub returns-in-Ok-clause-room : goal.returns-in-Ok-clause-room
returns-in-Ok-clause-room g c =
    let on = view_of g.D.Disk.seen g.D.Disk.faults g.D.Disk.clock in
    let ch = counted_room on g.D.Disk.settled c.args.from c.args.to _ _ _ _ c.push_in.result c.args.nodes.now c.push_in.new.nodes c.letters_left-most.ensures c.octets_left-room.ensures c.push_in.ensures.pushes in
    omega (
      arith,
      c.most_falls.ensures.most,
      c.in_ok-reserve.ensures.spare,
      sending_falls on c.args.from c.args.to c.args.nodes.now c.requires.fit c.requires.ready g.D.Disk.settled c.args.flying.now c.push_in.new.nodes c.push_in.result ch
          0 c.args.book.now c.reserve.new.self c.in-Ok.outbox c.in-Ok.is c.into_vec.result.items c.into_vec.ensures c.send_pushed.new.nodes c.send_pushed.new.flying c.send_pushed.result c.send_pushed.ensures.ok c.send_pushed.ensures.err,
    )

pub returns-in-Err-clause-did : goal.returns-in-Err-clause-did
returns-in-Err-clause-did g c = λ seconds.
    let on = view_of g.D.Disk.seen g.D.Disk.faults g.D.Disk.clock in
    let flights = c.args.flying.now.flights in
    let ch = counted_room on g.D.Disk.settled c.args.from c.args.to _ _ _ _ c.push_in.result c.args.nodes.now c.push_in.new.nodes c.letters_left-most.ensures c.octets_left-room.ensures c.push_in.ensures.pushes in
    let crowded : IsCrowdedAt c.args.to (letters_left_by flights) (octets_left_by flights) _ c.at.result.now =
    counted_crowd c.args.to _ _ _ _ _ c.at.result.now c.letters_left-most.ensures c.octets_left-room.ensures c.in_ok-is_crowded_at.ensures in
    subst (λ r. StepDid on r (step.Push c.args.from c.args.to) (state_with c.args.nodes.now c.args.flying.now seconds c.args.book.now) (state_with c.push_in.new.nodes c.args.flying.now seconds c.tell_fault.new.book))
    (sym c.tell_fault.ensures.said)
    (push_failed on c.args.from c.args.to c.args.nodes.now c.requires.fit c.requires.ready g.D.Disk.settled c.args.flying.now c.push_in.new.nodes c.push_in.result ch
    seconds c.args.book.now c.tell_fault.new.book c.at.result.now c.at.ensures (ap (nat_le letters_end) (sym c.sent.ensures) ∙ sym c.is_worn.ensures ∙ c.if-is_worn.false)
    (subst (λ b. IsCrowdedAt c.args.to (letters_left_by flights) (octets_left_by flights) b c.at.result.now) c.if-branch.false crowded) c.in-Err.fault c.in-Err.is
    (c.tell_fault.ensures.entries ∙ ap (λ b. b ++ entries_of_fault c.args.from c.in-Err.fault) c.reserve.ensures.entries))

pub returns-in-Err-clause-ready : goal.returns-in-Err-clause-ready
returns-in-Err-clause-ready g c =
    let on = view_of g.D.Disk.seen g.D.Disk.faults g.D.Disk.clock in
    let ch = counted_room on g.D.Disk.settled c.args.from c.args.to _ _ _ _ c.push_in.result c.args.nodes.now c.push_in.new.nodes c.letters_left-most.ensures c.octets_left-room.ensures c.push_in.ensures.pushes in
    pushed_ready on c.args.from c.args.to c.args.nodes.now c.requires.fit c.requires.ready g.D.Disk.settled c.args.flying.now c.push_in.new.nodes c.push_in.result ch c.push_in.result refl

pub returns-in-Err-clause-settled : goal.returns-in-Err-clause-settled
returns-in-Err-clause-settled g c = λ seconds.
    let on = view_of g.D.Disk.seen g.D.Disk.faults g.D.Disk.clock in
    let ch = counted_room on g.D.Disk.settled c.args.from c.args.to _ _ _ _ c.push_in.result c.args.nodes.now c.push_in.new.nodes c.letters_left-most.ensures c.octets_left-room.ensures c.push_in.ensures.pushes in
    pushed_settled on c.args.from c.args.to c.args.nodes.now c.requires.fit c.requires.ready g.D.Disk.settled c.args.flying.now c.push_in.new.nodes c.push_in.result ch
    seconds c.args.book.now c.tell_fault.new.book c.push_in.result refl

pub returns-in-Err-clause-room : goal.returns-in-Err-clause-room
returns-in-Err-clause-room g c =
    let on = view_of g.D.Disk.seen g.D.Disk.faults g.D.Disk.clock in
    let ch = counted_room on g.D.Disk.settled c.args.from c.args.to _ _ _ _ c.push_in.result c.args.nodes.now c.push_in.new.nodes c.letters_left-most.ensures c.octets_left-room.ensures c.push_in.ensures.pushes in
    omega (
      arith,
      c.most_falls.ensures.most,
      c.in_ok-reserve.ensures.spare,
      c.tell_fault.ensures.spare,
      pushed_falls on c.args.from c.args.to c.args.nodes.now c.requires.fit c.requires.ready g.D.Disk.settled c.args.flying.now c.push_in.new.nodes c.push_in.result ch c.push_in.result refl,
    )

pub returns-in-Err-clause-installs : goal.returns-in-Err-clause-installs
returns-in-Err-clause-installs g c = c.tell_fault.ensures.installs ∙ ap installs_in c.reserve.ensures.entries
