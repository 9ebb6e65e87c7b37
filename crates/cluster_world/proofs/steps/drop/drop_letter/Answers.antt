use Rattle.std.proofs.Common.{sym, ap, ◌∙◌, ◌&&◌, nat_le, Some, None, if◌then◌else◌}
use Rattle.cluster_model.specs.Steps.{has_ticket, letters_end}
use Rattle.node_store.specs.Disks.{view_of}
use Rattle.cluster_world.specs.Sure.{refusal_to_drop}
use Rattle.cluster_world.specs.declared.fault.StepFault.TheVariants.{Worn}
use Rattle.cluster_world.proofs.Dropping.{no_letter_dropped, worn_dropped, dropped_did}
use Rattle.cluster_world.proofs.steps.drop.drop_letter.Goals as goal

pub returns-in_default-clause-did : goal.returns-in_default-clause-did
returns-in_default-clause-did g c = λ seconds book. no_letter_dropped (view_of g.D.Disk.seen g.D.Disk.faults g.D.Disk.clock) c.args.nodes.now c.args.flying.now seconds book c.args.number (sym c.in_default.ensures.is)

pub returns-then-leads_too_far-clause-did : goal.returns-then-leads_too_far-clause-did
returns-then-leads_too_far-clause-did g c = λ seconds book. worn_dropped (view_of g.D.Disk.seen g.D.Disk.faults g.D.Disk.clock) c.args.nodes.now c.args.flying.now seconds book c.args.number c.in-Some.letter.now
    (sym c.in-Some.ensures.is) (ap (λ n. has_ticket (Some c.in-Some.letter.now) && nat_le letters_end n) (sym c.sent.ensures) ∙ sym c.if-leads_too_far.ensures)

pub returns-clause-did : goal.returns-clause-did
returns-clause-did g c = λ seconds book. dropped_did (view_of g.D.Disk.seen g.D.Disk.faults g.D.Disk.clock) c.args.nodes.now c.args.flying.now seconds book c.args.number c.in-Some.letter.now
    (sym c.in-Some.ensures.is) c.note_in.new.nodes c.take.new.self c.in-Some.ensures.order (c.requires.mail c.in-Some.letter.now (sym c.in-Some.ensures.is)) (ap (λ n. has_ticket (Some c.in-Some.letter.now) && nat_le letters_end n) (sym c.sent.ensures) ∙ sym c.if-leads_too_far.ensures) c.note_in.ensures c.take.ensures

pub returns-in_default-clause-sure : goal.returns-in_default-clause-sure
returns-in_default-clause-sure g c = λ seconds book. ap (refusal_to_drop c.args.flying.now.sent) (sym c.in_default.ensures.is)

pub returns-then-leads_too_far-clause-sure : goal.returns-then-leads_too_far-clause-sure
returns-then-leads_too_far-clause-sure g c = λ seconds book.
    ap (refusal_to_drop c.args.flying.now.sent) (sym c.in-Some.ensures.is)
    ∙ ap (λ b. if b then Some Worn else None) (ap (λ n. has_ticket (Some c.in-Some.letter.now) && nat_le letters_end n) (sym c.sent.ensures) ∙ sym c.if-leads_too_far.ensures)
