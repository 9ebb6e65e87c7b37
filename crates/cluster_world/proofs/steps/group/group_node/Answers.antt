use Rattle.std.proofs.Common.{◌∙◌, ◌-◌, None, ap, refl, sym, arith, nat_le}
use Rattle.std.proofs.lemmas.Result.{err_from_is_err_and}
use Rattle.cluster_model.specs.Steps.{letters_end}
use Rattle.whole_world.specs.Steps.{room_left}
use Rattle.node_store.specs.Disks.{view_of}
use Rattle.cluster_world.specs.Worlds.{state_with}
use Rattle.cluster_world.specs.declared.step.Step.TheVariants as step
use Rattle.cluster_world.proofs.Same.{none_done}
use Rattle.cluster_world.proofs.Asked.{same_book}
use Rattle.cluster_world.proofs.Grouping.{group_forms, group_formed, form_worn, form_crowded, opened_ready, opened_within, opened_sent, opened_not}
use Rattle.cluster_world.proofs.WholeGroups.{group_worn, group_used, group_crowded}
use Rattle.cluster_world.specs.Installs.{installs_in}
use Rattle.cluster_world.proofs.Installs.{sent_adds_none}
use Rattle.cluster_world.proofs.steps.group.group_node.Goals as goal

pub returns-then-is_worn-clause-did : goal.returns-then-is_worn-clause-did
returns-then-is_worn-clause-did g c = λ seconds. form_worn (view_of g.D.Disk.seen g.D.Disk.faults g.D.Disk.clock) c.args.node (step.Group c.args.node) (group_forms (view_of g.D.Disk.seen g.D.Disk.faults g.D.Disk.clock) c.args.node) c.args.nodes.now c.requires.fit c.requires.ready c.args.flying.now seconds c.args.book.now
    (group_worn (view_of g.D.Disk.seen g.D.Disk.faults g.D.Disk.clock) c.args.node c.args.nodes.now c.args.flying.now seconds c.args.book.now c.requires.fit (ap (nat_le letters_end) (sym c.sent.ensures) ∙ sym c.is_worn.ensures ∙ c.if-is_worn.true))

pub returns-then-is_used_up-clause-did : goal.returns-then-is_used_up-clause-did
returns-then-is_used_up-clause-did g c = λ seconds. form_worn (view_of g.D.Disk.seen g.D.Disk.faults g.D.Disk.clock) c.args.node (step.Group c.args.node) (group_forms (view_of g.D.Disk.seen g.D.Disk.faults g.D.Disk.clock) c.args.node) c.args.nodes.now c.requires.fit c.requires.ready c.args.flying.now seconds c.args.book.now
    (group_used (view_of g.D.Disk.seen g.D.Disk.faults g.D.Disk.clock) c.args.node c.args.nodes.now c.args.flying.now seconds c.args.book.now c.requires.fit (ap (nat_le letters_end) (sym c.sent.ensures) ∙ sym c.is_worn.ensures ∙ c.if-is_worn.false) c.at.result.now c.at.ensures (sym c.is_used_up.ensures ∙ c.if-is_used_up.true))

pub returns-then-not-find_room-clause-did : goal.returns-then-not-find_room-clause-did
returns-then-not-find_room-clause-did g c = λ seconds. form_crowded (view_of g.D.Disk.seen g.D.Disk.faults g.D.Disk.clock) c.args.node (step.Group c.args.node) (group_forms (view_of g.D.Disk.seen g.D.Disk.faults g.D.Disk.clock) c.args.node) c.args.nodes.now c.requires.fit c.requires.ready c.args.flying.now seconds c.args.book.now
    (group_crowded (view_of g.D.Disk.seen g.D.Disk.faults g.D.Disk.clock) c.args.node c.args.nodes.now c.args.flying.now seconds c.args.book.now c.requires.fit (ap (nat_le letters_end) (sym c.sent.ensures) ∙ sym c.is_worn.ensures ∙ c.if-is_worn.false) c.at.result.now c.at.ensures (sym c.is_used_up.ensures ∙ c.if-is_used_up.false)
    (ap (λ k. nat_le k (room_left c.args.flying.now.flights)) (ap (λ k. k - 1) (sym c.args.nodes.now.all ∙ sym c.args.nodes.now.lives.ok.0 ∙ sym c.len.ensures) ∙ sym c.saturating_sub.ensures) ∙ sym c.find_room.ensures ∙ c.if-not-find_room.true))

pub returns-in_err-reserve-clause-did : goal.returns-in_err-reserve-clause-did
returns-in_err-reserve-clause-did g c = λ seconds.
    let on = view_of g.D.Disk.seen g.D.Disk.faults g.D.Disk.clock in
    let s = state_with c.args.nodes.now c.args.flying.now seconds c.args.book.now in
    let p = err_from_is_err_and c.from_residual.result c.from_residual.ensures.1 in
    rw (p.1, p.2) (same_book on _ (step.Group c.args.node) c.args.nodes.now c.args.nodes.now c.args.flying.now seconds c.args.book.now c.reserve.new.self c.reserve.ensures.entries (none_done on s (step.Group c.args.node)))

pub send_answers-requires-clause-works : goal.send_answers-requires-clause-works
send_answers-requires-clause-works g c =
    opened_ready (view_of g.D.Disk.seen g.D.Disk.faults g.D.Disk.clock) c.args.node (step.Group c.args.node) (group_forms (view_of g.D.Disk.seen g.D.Disk.faults g.D.Disk.clock) c.args.node) c.args.nodes.now c.requires.fit c.requires.ready g.D.Disk.settled c.args.flying.now (ap (nat_le letters_end) (sym c.sent.ensures) ∙ sym c.is_worn.ensures ∙ c.if-is_worn.false) c.args.book.now refl c.reserve.new.self c.reserve.ensures.entries (omega (arith, c.most_falls.ensures.most, c.in_ok-reserve.ensures.spare)) c.open_in.result c.open_in.new.nodes c.open_in.ensures.does
    c.in-Ok.done c.in-Ok.is

pub send_answers-requires-clause-within : goal.send_answers-requires-clause-within
send_answers-requires-clause-within g c =
    opened_within (view_of g.D.Disk.seen g.D.Disk.faults g.D.Disk.clock) c.args.node (step.Group c.args.node) (group_forms (view_of g.D.Disk.seen g.D.Disk.faults g.D.Disk.clock) c.args.node) c.args.nodes.now c.requires.fit c.requires.ready g.D.Disk.settled c.args.flying.now (ap (nat_le letters_end) (sym c.sent.ensures) ∙ sym c.is_worn.ensures ∙ c.if-is_worn.false) c.args.book.now refl c.reserve.new.self c.reserve.ensures.entries (omega (arith, c.most_falls.ensures.most, c.in_ok-reserve.ensures.spare)) c.open_in.result c.open_in.new.nodes c.open_in.ensures.does

pub returns-in-Ok-clause-did : goal.returns-in-Ok-clause-did
returns-in-Ok-clause-did g c = (opened_sent (view_of g.D.Disk.seen g.D.Disk.faults g.D.Disk.clock) c.args.node (step.Group c.args.node) (group_forms (view_of g.D.Disk.seen g.D.Disk.faults g.D.Disk.clock) c.args.node) c.args.nodes.now c.requires.fit c.requires.ready g.D.Disk.settled c.args.flying.now (ap (nat_le letters_end) (sym c.sent.ensures) ∙ sym c.is_worn.ensures ∙ c.if-is_worn.false) c.args.book.now refl c.reserve.new.self c.reserve.ensures.entries (omega (arith, c.most_falls.ensures.most, c.in_ok-reserve.ensures.spare)) c.open_in.result c.open_in.new.nodes c.open_in.ensures.does
    (ap (λ k. nat_le k (room_left c.args.flying.now.flights)) (ap (λ k. k - 1) (sym c.args.nodes.now.all ∙ sym c.args.nodes.now.lives.ok.0 ∙ sym c.len.ensures) ∙ sym c.saturating_sub.ensures) ∙ sym c.find_room.ensures ∙ c.if-not-find_room.false)
    c.in-Ok.done c.in-Ok.is c.into_vec.result.items c.into_vec.ensures (group_formed (view_of g.D.Disk.seen g.D.Disk.faults g.D.Disk.clock) c.args.node c.in-Ok.done.epoch) c.send_answers.result c.send_answers.new.nodes c.send_answers.new.flying c.send_answers.new.book c.send_answers.ensures).did

pub returns-in-Ok-clause-ready : goal.returns-in-Ok-clause-ready
returns-in-Ok-clause-ready g c = (opened_sent (view_of g.D.Disk.seen g.D.Disk.faults g.D.Disk.clock) c.args.node (step.Group c.args.node) (group_forms (view_of g.D.Disk.seen g.D.Disk.faults g.D.Disk.clock) c.args.node) c.args.nodes.now c.requires.fit c.requires.ready g.D.Disk.settled c.args.flying.now (ap (nat_le letters_end) (sym c.sent.ensures) ∙ sym c.is_worn.ensures ∙ c.if-is_worn.false) c.args.book.now refl c.reserve.new.self c.reserve.ensures.entries (omega (arith, c.most_falls.ensures.most, c.in_ok-reserve.ensures.spare)) c.open_in.result c.open_in.new.nodes c.open_in.ensures.does
    (ap (λ k. nat_le k (room_left c.args.flying.now.flights)) (ap (λ k. k - 1) (sym c.args.nodes.now.all ∙ sym c.args.nodes.now.lives.ok.0 ∙ sym c.len.ensures) ∙ sym c.saturating_sub.ensures) ∙ sym c.find_room.ensures ∙ c.if-not-find_room.false)
    c.in-Ok.done c.in-Ok.is c.into_vec.result.items c.into_vec.ensures (group_formed (view_of g.D.Disk.seen g.D.Disk.faults g.D.Disk.clock) c.args.node c.in-Ok.done.epoch) c.send_answers.result c.send_answers.new.nodes c.send_answers.new.flying c.send_answers.new.book c.send_answers.ensures).works

pub returns-in-Ok-clause-settled : goal.returns-in-Ok-clause-settled
returns-in-Ok-clause-settled g c = (opened_sent (view_of g.D.Disk.seen g.D.Disk.faults g.D.Disk.clock) c.args.node (step.Group c.args.node) (group_forms (view_of g.D.Disk.seen g.D.Disk.faults g.D.Disk.clock) c.args.node) c.args.nodes.now c.requires.fit c.requires.ready g.D.Disk.settled c.args.flying.now (ap (nat_le letters_end) (sym c.sent.ensures) ∙ sym c.is_worn.ensures ∙ c.if-is_worn.false) c.args.book.now refl c.reserve.new.self c.reserve.ensures.entries (omega (arith, c.most_falls.ensures.most, c.in_ok-reserve.ensures.spare)) c.open_in.result c.open_in.new.nodes c.open_in.ensures.does
    (ap (λ k. nat_le k (room_left c.args.flying.now.flights)) (ap (λ k. k - 1) (sym c.args.nodes.now.all ∙ sym c.args.nodes.now.lives.ok.0 ∙ sym c.len.ensures) ∙ sym c.saturating_sub.ensures) ∙ sym c.find_room.ensures ∙ c.if-not-find_room.false)
    c.in-Ok.done c.in-Ok.is c.into_vec.result.items c.into_vec.ensures (group_formed (view_of g.D.Disk.seen g.D.Disk.faults g.D.Disk.clock) c.args.node c.in-Ok.done.epoch) c.send_answers.result c.send_answers.new.nodes c.send_answers.new.flying c.send_answers.new.book c.send_answers.ensures).settled

pub returns-in-Ok-clause-room : goal.returns-in-Ok-clause-room
returns-in-Ok-clause-room g c = omega (
  arith,
  c.most_falls.ensures.most,
  c.in_ok-reserve.ensures.spare,
  (opened_sent (view_of g.D.Disk.seen g.D.Disk.faults g.D.Disk.clock) c.args.node (step.Group c.args.node) (group_forms (view_of g.D.Disk.seen g.D.Disk.faults g.D.Disk.clock) c.args.node) c.args.nodes.now c.requires.fit c.requires.ready g.D.Disk.settled c.args.flying.now (ap (nat_le letters_end) (sym c.sent.ensures) ∙ sym c.is_worn.ensures ∙ c.if-is_worn.false) c.args.book.now refl c.reserve.new.self c.reserve.ensures.entries (omega (arith, c.most_falls.ensures.most, c.in_ok-reserve.ensures.spare)) c.open_in.result c.open_in.new.nodes c.open_in.ensures.does
      (ap (λ k. nat_le k (room_left c.args.flying.now.flights)) (ap (λ k. k - 1) (sym c.args.nodes.now.all ∙ sym c.args.nodes.now.lives.ok.0 ∙ sym c.len.ensures) ∙ sym c.saturating_sub.ensures) ∙ sym c.find_room.ensures ∙ c.if-not-find_room.false)
      c.in-Ok.done c.in-Ok.is c.into_vec.result.items c.into_vec.ensures (group_formed (view_of g.D.Disk.seen g.D.Disk.faults g.D.Disk.clock) c.args.node c.in-Ok.done.epoch) c.send_answers.result c.send_answers.new.nodes c.send_answers.new.flying c.send_answers.new.book c.send_answers.ensures).spare,
)

pub returns-in-Err-clause-did : goal.returns-in-Err-clause-did
returns-in-Err-clause-did g c = (opened_not (view_of g.D.Disk.seen g.D.Disk.faults g.D.Disk.clock) c.args.node (step.Group c.args.node) (group_forms (view_of g.D.Disk.seen g.D.Disk.faults g.D.Disk.clock) c.args.node) c.args.nodes.now c.requires.fit c.requires.ready g.D.Disk.settled c.args.flying.now (ap (nat_le letters_end) (sym c.sent.ensures) ∙ sym c.is_worn.ensures ∙ c.if-is_worn.false) c.args.book.now refl c.reserve.new.self c.reserve.ensures.entries (omega (arith, c.most_falls.ensures.most, c.in_ok-reserve.ensures.spare)) c.open_in.result c.open_in.new.nodes c.open_in.ensures.does
    (ap (λ k. nat_le k (room_left c.args.flying.now.flights)) (ap (λ k. k - 1) (sym c.args.nodes.now.all ∙ sym c.args.nodes.now.lives.ok.0 ∙ sym c.len.ensures) ∙ sym c.saturating_sub.ensures) ∙ sym c.find_room.ensures ∙ c.if-not-find_room.false)
    c.in-Err.fault c.in-Err.is c.tell_fault.result c.tell_fault.new.book c.tell_fault.ensures.said c.tell_fault.ensures.entries c.tell_fault.ensures.spare).did

pub returns-in-Err-clause-ready : goal.returns-in-Err-clause-ready
returns-in-Err-clause-ready g c = (opened_not (view_of g.D.Disk.seen g.D.Disk.faults g.D.Disk.clock) c.args.node (step.Group c.args.node) (group_forms (view_of g.D.Disk.seen g.D.Disk.faults g.D.Disk.clock) c.args.node) c.args.nodes.now c.requires.fit c.requires.ready g.D.Disk.settled c.args.flying.now (ap (nat_le letters_end) (sym c.sent.ensures) ∙ sym c.is_worn.ensures ∙ c.if-is_worn.false) c.args.book.now refl c.reserve.new.self c.reserve.ensures.entries (omega (arith, c.most_falls.ensures.most, c.in_ok-reserve.ensures.spare)) c.open_in.result c.open_in.new.nodes c.open_in.ensures.does
    (ap (λ k. nat_le k (room_left c.args.flying.now.flights)) (ap (λ k. k - 1) (sym c.args.nodes.now.all ∙ sym c.args.nodes.now.lives.ok.0 ∙ sym c.len.ensures) ∙ sym c.saturating_sub.ensures) ∙ sym c.find_room.ensures ∙ c.if-not-find_room.false)
    c.in-Err.fault c.in-Err.is c.tell_fault.result c.tell_fault.new.book c.tell_fault.ensures.said c.tell_fault.ensures.entries c.tell_fault.ensures.spare).works

pub returns-in-Err-clause-settled : goal.returns-in-Err-clause-settled
returns-in-Err-clause-settled g c = (opened_not (view_of g.D.Disk.seen g.D.Disk.faults g.D.Disk.clock) c.args.node (step.Group c.args.node) (group_forms (view_of g.D.Disk.seen g.D.Disk.faults g.D.Disk.clock) c.args.node) c.args.nodes.now c.requires.fit c.requires.ready g.D.Disk.settled c.args.flying.now (ap (nat_le letters_end) (sym c.sent.ensures) ∙ sym c.is_worn.ensures ∙ c.if-is_worn.false) c.args.book.now refl c.reserve.new.self c.reserve.ensures.entries (omega (arith, c.most_falls.ensures.most, c.in_ok-reserve.ensures.spare)) c.open_in.result c.open_in.new.nodes c.open_in.ensures.does
    (ap (λ k. nat_le k (room_left c.args.flying.now.flights)) (ap (λ k. k - 1) (sym c.args.nodes.now.all ∙ sym c.args.nodes.now.lives.ok.0 ∙ sym c.len.ensures) ∙ sym c.saturating_sub.ensures) ∙ sym c.find_room.ensures ∙ c.if-not-find_room.false)
    c.in-Err.fault c.in-Err.is c.tell_fault.result c.tell_fault.new.book c.tell_fault.ensures.said c.tell_fault.ensures.entries c.tell_fault.ensures.spare).settled

pub returns-in-Err-clause-room : goal.returns-in-Err-clause-room
returns-in-Err-clause-room g c = omega (
  arith,
  c.most_falls.ensures.most,
  c.in_ok-reserve.ensures.spare,
  (opened_not (view_of g.D.Disk.seen g.D.Disk.faults g.D.Disk.clock) c.args.node (step.Group c.args.node) (group_forms (view_of g.D.Disk.seen g.D.Disk.faults g.D.Disk.clock) c.args.node) c.args.nodes.now c.requires.fit c.requires.ready g.D.Disk.settled c.args.flying.now (ap (nat_le letters_end) (sym c.sent.ensures) ∙ sym c.is_worn.ensures ∙ c.if-is_worn.false) c.args.book.now refl c.reserve.new.self c.reserve.ensures.entries (omega (arith, c.most_falls.ensures.most, c.in_ok-reserve.ensures.spare)) c.open_in.result c.open_in.new.nodes c.open_in.ensures.does
      (ap (λ k. nat_le k (room_left c.args.flying.now.flights)) (ap (λ k. k - 1) (sym c.args.nodes.now.all ∙ sym c.args.nodes.now.lives.ok.0 ∙ sym c.len.ensures) ∙ sym c.saturating_sub.ensures) ∙ sym c.find_room.ensures ∙ c.if-not-find_room.false)
      c.in-Err.fault c.in-Err.is c.tell_fault.result c.tell_fault.new.book c.tell_fault.ensures.said c.tell_fault.ensures.entries c.tell_fault.ensures.spare).spare,
)

pub returns-in-Ok-clause-installs : goal.returns-in-Ok-clause-installs
returns-in-Ok-clause-installs g c =
    sent_adds_none (view_of g.D.Disk.seen g.D.Disk.faults g.D.Disk.clock) c.open_in.new.nodes.plan c.args.node None _ c.into_vec.result.items c.send_answers.result
    c.open_in.new.nodes c.args.flying.now c.reserve.new.self c.send_answers.new.nodes c.send_answers.new.flying c.send_answers.new.book c.send_answers.ensures
    ∙ ap installs_in c.reserve.ensures.entries

pub returns-in-Err-clause-installs : goal.returns-in-Err-clause-installs
returns-in-Err-clause-installs g c = c.tell_fault.ensures.installs ∙ ap installs_in c.reserve.ensures.entries

pub returns-in_err-reserve-clause-installs : goal.returns-in_err-reserve-clause-installs
returns-in_err-reserve-clause-installs g c = ap installs_in c.reserve.ensures.entries
