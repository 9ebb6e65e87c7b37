use Rattle.std.proofs.Common.{◌∙◌, List, ap, subst, sym, nat_le}
use Rattle.std.proofs.lemmas.Result.{err_from_is_err_and}
use Rattle.cluster_model.specs.Steps.{letters_end}
use Rattle.object_model.specs.Letters.{Letter}
use Rattle.node_store.specs.Disks.{view_of}
use Rattle.cluster_world.specs.Hears.{AllCanBeHeard}
use Rattle.cluster_world.proofs.Reporting.{report_mapped, report_worn, report_stopped, report_heard, report_ends, report_works, report_falls}
use Rattle.cluster_world.proofs.steps.report.report_rows.Goals as goal

pub returns-then-is_worn-clause-did : goal.returns-then-is_worn-clause-did
returns-then-is_worn-clause-did g c = λ seconds book.
    report_worn (view_of g.D.Disk.seen g.D.Disk.faults g.D.Disk.clock) c.args.from c.args.to c.args.nodes.now c.requires.fit c.requires.ready c.args.flying.now seconds book (ap (nat_le letters_end) (sym c.sent.ensures) ∙ sym c.is_worn.ensures ∙ c.if-is_worn.true)

pub rows_at-requires : goal.rows_at-requires
rows_at-requires g c = record { up = report_mapped (view_of g.D.Disk.seen g.D.Disk.faults g.D.Disk.clock) c.args.from c.args.to c.args.nodes.now c.requires.fit c.requires.ready c.at.result.now c.at.ensures }

pub returns-in_err-letters-clause-did : goal.returns-in_err-letters-clause-did
returns-in_err-letters-clause-did g c = λ seconds book.
    let p = err_from_is_err_and c.from_residual.result c.from_residual.ensures.1 in
    rw (p.1, p.2) (report_stopped (view_of g.D.Disk.seen g.D.Disk.faults g.D.Disk.clock) c.args.from c.args.to c.args.nodes.now c.requires.fit c.requires.ready c.args.flying.now seconds book
    (ap (nat_le letters_end) (sym c.sent.ensures) ∙ sym c.is_worn.ensures ∙ c.if-is_worn.false) c.at.result.now c.at.ensures _ c.room_for-room.ensures _ c.in_err-letters.ensures)

pub send_pushed-requires-clause-heard : goal.send_pushed-requires-clause-heard
send_pushed-requires-clause-heard g c =
    subst (λ (letters : List Letter). AllCanBeHeard letters) (sym c.into_vec.ensures)
    (report_heard _ _ c.at.result.now _ c.in_ok-letters.ensures)

pub returns-clause-did : goal.returns-clause-did
returns-clause-did g c = λ seconds book.
    (report_ends (view_of g.D.Disk.seen g.D.Disk.faults g.D.Disk.clock) c.args.from c.args.to c.args.nodes.now c.requires.fit c.requires.ready c.args.flying.now seconds book g.D.Disk.settled
    (ap (nat_le letters_end) (sym c.sent.ensures) ∙ sym c.is_worn.ensures ∙ c.if-is_worn.false) c.at.result.now c.at.ensures _ c.room_for-room.ensures _ c.in_ok-letters.ensures c.into_vec.result.items c.into_vec.ensures c.send_pushed.new.nodes c.send_pushed.new.flying c.send_pushed.result c.send_pushed.ensures.ok c.send_pushed.ensures.err).did

pub returns-clause-settled : goal.returns-clause-settled
returns-clause-settled g c = λ seconds book.
    (report_ends (view_of g.D.Disk.seen g.D.Disk.faults g.D.Disk.clock) c.args.from c.args.to c.args.nodes.now c.requires.fit c.requires.ready c.args.flying.now seconds book g.D.Disk.settled
    (ap (nat_le letters_end) (sym c.sent.ensures) ∙ sym c.is_worn.ensures ∙ c.if-is_worn.false) c.at.result.now c.at.ensures _ c.room_for-room.ensures _ c.in_ok-letters.ensures c.into_vec.result.items c.into_vec.ensures c.send_pushed.new.nodes c.send_pushed.new.flying c.send_pushed.result c.send_pushed.ensures.ok c.send_pushed.ensures.err).settled

pub returns-clause-ready : goal.returns-clause-ready
returns-clause-ready g c =
    report_works (view_of g.D.Disk.seen g.D.Disk.faults g.D.Disk.clock) c.args.from c.args.to c.args.nodes.now c.requires.fit c.requires.ready _ c.send_pushed.new.nodes c.args.flying.now c.send_pushed.new.flying c.send_pushed.result c.send_pushed.ensures.ok c.send_pushed.ensures.err

pub returns-clause-falls : goal.returns-clause-falls
returns-clause-falls g c =
    report_falls (view_of g.D.Disk.seen g.D.Disk.faults g.D.Disk.clock) c.args.from c.args.to c.args.nodes.now c.requires.fit c.requires.ready _ c.send_pushed.new.nodes c.args.flying.now c.send_pushed.new.flying c.send_pushed.result c.send_pushed.ensures.ok c.send_pushed.ensures.err
