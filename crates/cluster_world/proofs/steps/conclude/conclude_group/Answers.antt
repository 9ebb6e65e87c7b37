use Rattle.std.proofs.Common.{◌∙◌, ◌-◌, None, ap, refl, sym, nat_le}
use Rattle.cluster_model.specs.Steps.{letters_end}
use Rattle.whole_world.specs.Steps.{room_left}
use Rattle.node_store.specs.Disks.{view_of}
use Rattle.cluster_world.specs.declared.step.Step.TheVariants as step
use Rattle.cluster_world.proofs.Grouping.{conclude_forms, conclude_formed, form_worn, form_crowded, form_none, concluded_ready, concluded_within, concluded_sent, concluded_none, concluded_not}
use Rattle.cluster_world.proofs.Whole.{whole_there}
use Rattle.cluster_world.proofs.WholeGroups.{conclude_none, conclude_worn, conclude_crowded}
use Rattle.cluster_world.proofs.Installs.{sent_adds_none}
use Rattle.cluster_world.proofs.steps.conclude.conclude_group.Goals as goal

pub returns-in_default-clause-did : goal.returns-in_default-clause-did
returns-in_default-clause-did g c = λ seconds. form_none (view_of g.D.Disk.seen g.D.Disk.faults g.D.Disk.clock) c.args.node (step.Conclude c.args.node) (conclude_forms (view_of g.D.Disk.seen g.D.Disk.faults g.D.Disk.clock) c.args.node) c.args.nodes.now c.requires.fit c.requires.ready c.args.flying.now seconds c.args.book.now
    (conclude_none (view_of g.D.Disk.seen g.D.Disk.faults g.D.Disk.clock) c.args.node c.args.nodes.now c.args.flying.now seconds c.args.book.now c.requires.fit c.at.result.now c.at.ensures (sym c.joins_at.ensures ∙ c.in_default.is))

pub returns-then-is_worn-clause-did : goal.returns-then-is_worn-clause-did
returns-then-is_worn-clause-did g c = λ seconds. form_worn (view_of g.D.Disk.seen g.D.Disk.faults g.D.Disk.clock) c.args.node (step.Conclude c.args.node) (conclude_forms (view_of g.D.Disk.seen g.D.Disk.faults g.D.Disk.clock) c.args.node) c.args.nodes.now c.requires.fit c.requires.ready c.args.flying.now seconds c.args.book.now
    (conclude_worn (view_of g.D.Disk.seen g.D.Disk.faults g.D.Disk.clock) c.args.node c.args.nodes.now c.args.flying.now seconds c.args.book.now c.requires.fit c.at.result.now c.at.ensures c.in-Some.joins (sym c.joins_at.ensures ∙ c.in-Some.is) (ap (nat_le letters_end) (sym c.sent.ensures) ∙ sym c.is_worn.ensures ∙ c.if-is_worn.true))

pub returns-then-not-find_room-clause-did : goal.returns-then-not-find_room-clause-did
returns-then-not-find_room-clause-did g c = λ seconds. form_crowded (view_of g.D.Disk.seen g.D.Disk.faults g.D.Disk.clock) c.args.node (step.Conclude c.args.node) (conclude_forms (view_of g.D.Disk.seen g.D.Disk.faults g.D.Disk.clock) c.args.node) c.args.nodes.now c.requires.fit c.requires.ready c.args.flying.now seconds c.args.book.now
    (conclude_crowded (view_of g.D.Disk.seen g.D.Disk.faults g.D.Disk.clock) c.args.node c.args.nodes.now c.args.flying.now seconds c.args.book.now c.requires.fit c.at.result.now c.at.ensures c.in-Some.joins (sym c.joins_at.ensures ∙ c.in-Some.is) (ap (nat_le letters_end) (sym c.sent.ensures) ∙ sym c.is_worn.ensures ∙ c.if-is_worn.false)
    (ap (λ k. nat_le k (room_left c.args.flying.now.flights)) (sym c.saturating_sub.ensures) ∙ sym c.find_room.ensures ∙ c.if-not-find_room.true))

pub members_at-members-requires : goal.members_at-members-requires
members_at-members-requires g c = record {
  whole = whole_there g.D.Disk.seen c.conclude_in.new.nodes
      (concluded_ready (view_of g.D.Disk.seen g.D.Disk.faults g.D.Disk.clock) c.args.node (step.Conclude c.args.node) (conclude_forms (view_of g.D.Disk.seen g.D.Disk.faults g.D.Disk.clock) c.args.node) c.args.nodes.now c.requires.fit c.requires.ready g.D.Disk.settled c.args.flying.now (ap (nat_le letters_end) (sym c.sent.ensures) ∙ sym c.is_worn.ensures ∙ c.if-is_worn.false) c.args.book.now refl c.args.book.now refl c.requires.room c.conclude_in.result c.conclude_in.new.nodes c.conclude_in.ensures.does
      c.in-Ok-Some.done (let a = c.in-Ok-Some.is in let b = c.in-Ok-Some.field-0-is in cc))
      c.args.node c.at-in-Ok-Some.result.now (sym c.at-in-Ok-Some.ensures);
}

pub send_answers-requires-clause-works : goal.send_answers-requires-clause-works
send_answers-requires-clause-works g c =
    concluded_ready (view_of g.D.Disk.seen g.D.Disk.faults g.D.Disk.clock) c.args.node (step.Conclude c.args.node) (conclude_forms (view_of g.D.Disk.seen g.D.Disk.faults g.D.Disk.clock) c.args.node) c.args.nodes.now c.requires.fit c.requires.ready g.D.Disk.settled c.args.flying.now (ap (nat_le letters_end) (sym c.sent.ensures) ∙ sym c.is_worn.ensures ∙ c.if-is_worn.false) c.args.book.now refl c.args.book.now refl c.requires.room c.conclude_in.result c.conclude_in.new.nodes c.conclude_in.ensures.does
    c.in-Ok-Some.done (let a = c.in-Ok-Some.is in let b = c.in-Ok-Some.field-0-is in cc)

pub send_answers-requires-clause-within : goal.send_answers-requires-clause-within
send_answers-requires-clause-within g c =
    concluded_within (view_of g.D.Disk.seen g.D.Disk.faults g.D.Disk.clock) c.args.node (step.Conclude c.args.node) (conclude_forms (view_of g.D.Disk.seen g.D.Disk.faults g.D.Disk.clock) c.args.node) c.args.nodes.now c.requires.fit c.requires.ready g.D.Disk.settled c.args.flying.now (ap (nat_le letters_end) (sym c.sent.ensures) ∙ sym c.is_worn.ensures ∙ c.if-is_worn.false) c.args.book.now refl c.args.book.now refl c.requires.room c.conclude_in.result c.conclude_in.new.nodes c.conclude_in.ensures.does

pub returns-in-Ok-Some-clause-did : goal.returns-in-Ok-Some-clause-did
returns-in-Ok-Some-clause-did g c = (concluded_sent (view_of g.D.Disk.seen g.D.Disk.faults g.D.Disk.clock) c.args.node (step.Conclude c.args.node) (conclude_forms (view_of g.D.Disk.seen g.D.Disk.faults g.D.Disk.clock) c.args.node) c.args.nodes.now c.requires.fit c.requires.ready g.D.Disk.settled c.args.flying.now (ap (nat_le letters_end) (sym c.sent.ensures) ∙ sym c.is_worn.ensures ∙ c.if-is_worn.false) c.args.book.now refl c.args.book.now refl c.requires.room c.conclude_in.result c.conclude_in.new.nodes c.conclude_in.ensures.does
    c.in-Ok-Some.done (let a = c.in-Ok-Some.is in let b = c.in-Ok-Some.field-0-is in cc) c.into_vec.result.items c.into_vec.ensures
    c.at.result.now c.at.ensures c.in-Some.joins (sym c.joins_at.ensures ∙ c.in-Some.is) (ap (λ k. nat_le k (room_left c.args.flying.now.flights)) (sym c.saturating_sub.ensures) ∙ sym c.find_room.ensures ∙ c.if-not-find_room.false) c.at-in-Ok-Some.result.now c.at-in-Ok-Some.ensures c.members_at-members.result c.members_at-members.ensures
    (conclude_formed (view_of g.D.Disk.seen g.D.Disk.faults g.D.Disk.clock) c.args.node c.in-Ok-Some.done.epoch _) c.send_answers.result c.send_answers.new.nodes c.send_answers.new.flying c.send_answers.new.book c.send_answers.ensures).did

pub returns-in-Ok-Some-clause-ready : goal.returns-in-Ok-Some-clause-ready
returns-in-Ok-Some-clause-ready g c = (concluded_sent (view_of g.D.Disk.seen g.D.Disk.faults g.D.Disk.clock) c.args.node (step.Conclude c.args.node) (conclude_forms (view_of g.D.Disk.seen g.D.Disk.faults g.D.Disk.clock) c.args.node) c.args.nodes.now c.requires.fit c.requires.ready g.D.Disk.settled c.args.flying.now (ap (nat_le letters_end) (sym c.sent.ensures) ∙ sym c.is_worn.ensures ∙ c.if-is_worn.false) c.args.book.now refl c.args.book.now refl c.requires.room c.conclude_in.result c.conclude_in.new.nodes c.conclude_in.ensures.does
    c.in-Ok-Some.done (let a = c.in-Ok-Some.is in let b = c.in-Ok-Some.field-0-is in cc) c.into_vec.result.items c.into_vec.ensures
    c.at.result.now c.at.ensures c.in-Some.joins (sym c.joins_at.ensures ∙ c.in-Some.is) (ap (λ k. nat_le k (room_left c.args.flying.now.flights)) (sym c.saturating_sub.ensures) ∙ sym c.find_room.ensures ∙ c.if-not-find_room.false) c.at-in-Ok-Some.result.now c.at-in-Ok-Some.ensures c.members_at-members.result c.members_at-members.ensures
    (conclude_formed (view_of g.D.Disk.seen g.D.Disk.faults g.D.Disk.clock) c.args.node c.in-Ok-Some.done.epoch _) c.send_answers.result c.send_answers.new.nodes c.send_answers.new.flying c.send_answers.new.book c.send_answers.ensures).works

pub returns-in-Ok-Some-clause-settled : goal.returns-in-Ok-Some-clause-settled
returns-in-Ok-Some-clause-settled g c = (concluded_sent (view_of g.D.Disk.seen g.D.Disk.faults g.D.Disk.clock) c.args.node (step.Conclude c.args.node) (conclude_forms (view_of g.D.Disk.seen g.D.Disk.faults g.D.Disk.clock) c.args.node) c.args.nodes.now c.requires.fit c.requires.ready g.D.Disk.settled c.args.flying.now (ap (nat_le letters_end) (sym c.sent.ensures) ∙ sym c.is_worn.ensures ∙ c.if-is_worn.false) c.args.book.now refl c.args.book.now refl c.requires.room c.conclude_in.result c.conclude_in.new.nodes c.conclude_in.ensures.does
    c.in-Ok-Some.done (let a = c.in-Ok-Some.is in let b = c.in-Ok-Some.field-0-is in cc) c.into_vec.result.items c.into_vec.ensures
    c.at.result.now c.at.ensures c.in-Some.joins (sym c.joins_at.ensures ∙ c.in-Some.is) (ap (λ k. nat_le k (room_left c.args.flying.now.flights)) (sym c.saturating_sub.ensures) ∙ sym c.find_room.ensures ∙ c.if-not-find_room.false) c.at-in-Ok-Some.result.now c.at-in-Ok-Some.ensures c.members_at-members.result c.members_at-members.ensures
    (conclude_formed (view_of g.D.Disk.seen g.D.Disk.faults g.D.Disk.clock) c.args.node c.in-Ok-Some.done.epoch _) c.send_answers.result c.send_answers.new.nodes c.send_answers.new.flying c.send_answers.new.book c.send_answers.ensures).settled

pub returns-in-Ok-Some-clause-spare : goal.returns-in-Ok-Some-clause-spare
returns-in-Ok-Some-clause-spare g c = (concluded_sent (view_of g.D.Disk.seen g.D.Disk.faults g.D.Disk.clock) c.args.node (step.Conclude c.args.node) (conclude_forms (view_of g.D.Disk.seen g.D.Disk.faults g.D.Disk.clock) c.args.node) c.args.nodes.now c.requires.fit c.requires.ready g.D.Disk.settled c.args.flying.now (ap (nat_le letters_end) (sym c.sent.ensures) ∙ sym c.is_worn.ensures ∙ c.if-is_worn.false) c.args.book.now refl c.args.book.now refl c.requires.room c.conclude_in.result c.conclude_in.new.nodes c.conclude_in.ensures.does
    c.in-Ok-Some.done (let a = c.in-Ok-Some.is in let b = c.in-Ok-Some.field-0-is in cc) c.into_vec.result.items c.into_vec.ensures
    c.at.result.now c.at.ensures c.in-Some.joins (sym c.joins_at.ensures ∙ c.in-Some.is) (ap (λ k. nat_le k (room_left c.args.flying.now.flights)) (sym c.saturating_sub.ensures) ∙ sym c.find_room.ensures ∙ c.if-not-find_room.false) c.at-in-Ok-Some.result.now c.at-in-Ok-Some.ensures c.members_at-members.result c.members_at-members.ensures
    (conclude_formed (view_of g.D.Disk.seen g.D.Disk.faults g.D.Disk.clock) c.args.node c.in-Ok-Some.done.epoch _) c.send_answers.result c.send_answers.new.nodes c.send_answers.new.flying c.send_answers.new.book c.send_answers.ensures).spare

pub returns-in-Ok-None-clause-did : goal.returns-in-Ok-None-clause-did
returns-in-Ok-None-clause-did g c = (concluded_none (view_of g.D.Disk.seen g.D.Disk.faults g.D.Disk.clock) c.args.node (step.Conclude c.args.node) (conclude_forms (view_of g.D.Disk.seen g.D.Disk.faults g.D.Disk.clock) c.args.node) c.args.nodes.now c.requires.fit c.requires.ready g.D.Disk.settled c.args.flying.now (ap (nat_le letters_end) (sym c.sent.ensures) ∙ sym c.is_worn.ensures ∙ c.if-is_worn.false) c.args.book.now refl c.args.book.now refl c.requires.room c.conclude_in.result c.conclude_in.new.nodes c.conclude_in.ensures.does
    (let a = c.in-Ok-None.is in let b = c.in-Ok-None.field-0-is in cc)).did

pub returns-in-Ok-None-clause-ready : goal.returns-in-Ok-None-clause-ready
returns-in-Ok-None-clause-ready g c = (concluded_none (view_of g.D.Disk.seen g.D.Disk.faults g.D.Disk.clock) c.args.node (step.Conclude c.args.node) (conclude_forms (view_of g.D.Disk.seen g.D.Disk.faults g.D.Disk.clock) c.args.node) c.args.nodes.now c.requires.fit c.requires.ready g.D.Disk.settled c.args.flying.now (ap (nat_le letters_end) (sym c.sent.ensures) ∙ sym c.is_worn.ensures ∙ c.if-is_worn.false) c.args.book.now refl c.args.book.now refl c.requires.room c.conclude_in.result c.conclude_in.new.nodes c.conclude_in.ensures.does
    (let a = c.in-Ok-None.is in let b = c.in-Ok-None.field-0-is in cc)).works

pub returns-in-Ok-None-clause-settled : goal.returns-in-Ok-None-clause-settled
returns-in-Ok-None-clause-settled g c = (concluded_none (view_of g.D.Disk.seen g.D.Disk.faults g.D.Disk.clock) c.args.node (step.Conclude c.args.node) (conclude_forms (view_of g.D.Disk.seen g.D.Disk.faults g.D.Disk.clock) c.args.node) c.args.nodes.now c.requires.fit c.requires.ready g.D.Disk.settled c.args.flying.now (ap (nat_le letters_end) (sym c.sent.ensures) ∙ sym c.is_worn.ensures ∙ c.if-is_worn.false) c.args.book.now refl c.args.book.now refl c.requires.room c.conclude_in.result c.conclude_in.new.nodes c.conclude_in.ensures.does
    (let a = c.in-Ok-None.is in let b = c.in-Ok-None.field-0-is in cc)).settled

pub returns-in-Ok-None-clause-spare : goal.returns-in-Ok-None-clause-spare
returns-in-Ok-None-clause-spare g c = (concluded_none (view_of g.D.Disk.seen g.D.Disk.faults g.D.Disk.clock) c.args.node (step.Conclude c.args.node) (conclude_forms (view_of g.D.Disk.seen g.D.Disk.faults g.D.Disk.clock) c.args.node) c.args.nodes.now c.requires.fit c.requires.ready g.D.Disk.settled c.args.flying.now (ap (nat_le letters_end) (sym c.sent.ensures) ∙ sym c.is_worn.ensures ∙ c.if-is_worn.false) c.args.book.now refl c.args.book.now refl c.requires.room c.conclude_in.result c.conclude_in.new.nodes c.conclude_in.ensures.does
    (let a = c.in-Ok-None.is in let b = c.in-Ok-None.field-0-is in cc)).spare

pub returns-in-Err-clause-did : goal.returns-in-Err-clause-did
returns-in-Err-clause-did g c = (concluded_not (view_of g.D.Disk.seen g.D.Disk.faults g.D.Disk.clock) c.args.node (step.Conclude c.args.node) (conclude_forms (view_of g.D.Disk.seen g.D.Disk.faults g.D.Disk.clock) c.args.node) c.args.nodes.now c.requires.fit c.requires.ready g.D.Disk.settled c.args.flying.now (ap (nat_le letters_end) (sym c.sent.ensures) ∙ sym c.is_worn.ensures ∙ c.if-is_worn.false) c.args.book.now refl c.args.book.now refl c.requires.room c.conclude_in.result c.conclude_in.new.nodes c.conclude_in.ensures.does
    c.in-Err.fault c.in-Err.is c.tell_fault.result c.tell_fault.new.book c.tell_fault.ensures.said c.tell_fault.ensures.entries c.tell_fault.ensures.spare).did

pub returns-in-Err-clause-ready : goal.returns-in-Err-clause-ready
returns-in-Err-clause-ready g c = (concluded_not (view_of g.D.Disk.seen g.D.Disk.faults g.D.Disk.clock) c.args.node (step.Conclude c.args.node) (conclude_forms (view_of g.D.Disk.seen g.D.Disk.faults g.D.Disk.clock) c.args.node) c.args.nodes.now c.requires.fit c.requires.ready g.D.Disk.settled c.args.flying.now (ap (nat_le letters_end) (sym c.sent.ensures) ∙ sym c.is_worn.ensures ∙ c.if-is_worn.false) c.args.book.now refl c.args.book.now refl c.requires.room c.conclude_in.result c.conclude_in.new.nodes c.conclude_in.ensures.does
    c.in-Err.fault c.in-Err.is c.tell_fault.result c.tell_fault.new.book c.tell_fault.ensures.said c.tell_fault.ensures.entries c.tell_fault.ensures.spare).works

pub returns-in-Err-clause-settled : goal.returns-in-Err-clause-settled
returns-in-Err-clause-settled g c = (concluded_not (view_of g.D.Disk.seen g.D.Disk.faults g.D.Disk.clock) c.args.node (step.Conclude c.args.node) (conclude_forms (view_of g.D.Disk.seen g.D.Disk.faults g.D.Disk.clock) c.args.node) c.args.nodes.now c.requires.fit c.requires.ready g.D.Disk.settled c.args.flying.now (ap (nat_le letters_end) (sym c.sent.ensures) ∙ sym c.is_worn.ensures ∙ c.if-is_worn.false) c.args.book.now refl c.args.book.now refl c.requires.room c.conclude_in.result c.conclude_in.new.nodes c.conclude_in.ensures.does
    c.in-Err.fault c.in-Err.is c.tell_fault.result c.tell_fault.new.book c.tell_fault.ensures.said c.tell_fault.ensures.entries c.tell_fault.ensures.spare).settled

pub returns-in-Err-clause-spare : goal.returns-in-Err-clause-spare
returns-in-Err-clause-spare g c = (concluded_not (view_of g.D.Disk.seen g.D.Disk.faults g.D.Disk.clock) c.args.node (step.Conclude c.args.node) (conclude_forms (view_of g.D.Disk.seen g.D.Disk.faults g.D.Disk.clock) c.args.node) c.args.nodes.now c.requires.fit c.requires.ready g.D.Disk.settled c.args.flying.now (ap (nat_le letters_end) (sym c.sent.ensures) ∙ sym c.is_worn.ensures ∙ c.if-is_worn.false) c.args.book.now refl c.args.book.now refl c.requires.room c.conclude_in.result c.conclude_in.new.nodes c.conclude_in.ensures.does
    c.in-Err.fault c.in-Err.is c.tell_fault.result c.tell_fault.new.book c.tell_fault.ensures.said c.tell_fault.ensures.entries c.tell_fault.ensures.spare).spare

pub returns-in-Ok-Some-clause-installs : goal.returns-in-Ok-Some-clause-installs
returns-in-Ok-Some-clause-installs g c =
    sent_adds_none (view_of g.D.Disk.seen g.D.Disk.faults g.D.Disk.clock) c.conclude_in.new.nodes.plan c.args.node None _ c.into_vec.result.items c.send_answers.result
    c.conclude_in.new.nodes c.args.flying.now c.args.book.now c.send_answers.new.nodes c.send_answers.new.flying c.send_answers.new.book c.send_answers.ensures
