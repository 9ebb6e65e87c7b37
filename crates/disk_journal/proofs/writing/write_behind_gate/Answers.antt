use Rattle.std.proofs.lemmas.Result.{err_from_is_err_and}
use Rattle.disk_journal.proofs.Gates.{first_failed, second_failed, both_made, gate_behind}
use Rattle.disk_journal.proofs.Images.{first_adds, told_adds, told_all, if_told}
use Rattle.disk_journal.proofs.writing.write_behind_gate.Goals as goal

pub returns-in_err-write_record-clause-gated : goal.returns-in_err-write_record-clause-gated
returns-in_err-write_record-clause-gated g c = λ node payloads payload is small stands.
    let p = err_from_is_err_and c.from_residual.result c.from_residual.ensures.1 in
    rw p.1 (first_failed _ _ _ _ _ _ _ stands c.in_err-write_record.ensures.written)

pub returns-in_err-write_record-clause-images : goal.returns-in_err-write_record-clause-images
returns-in_err-write_record-clause-images g c = λ payload is small.
    if_told (g.D.Disk.seen c.args.disk.now) (first_adds g.D.Disk.clock _ _ c.args.end _ payload c.write_record.ensures.images)

pub returns-in_err-open_gate-clause-gated : goal.returns-in_err-open_gate-clause-gated
returns-in_err-open_gate-clause-gated g c = λ node payloads payload is small stands.
    let p = err_from_is_err_and c.from_residual-in_err-open_gate.result c.from_residual-in_err-open_gate.ensures.1 in
    rw p.1 (second_failed _ _ _ _ _ _ _ _ stands is small c.in_ok-write_record.ensures.written c.in_err-open_gate.ensures.written)

pub returns-in_err-open_gate-clause-images : goal.returns-in_err-open_gate-clause-images
returns-in_err-open_gate-clause-images g c = λ payload is small.
    told_adds g.D.Disk.clock _ _ _ _ _ _ _ payload _ is small (g.met.D.Disk.seen_is_image c.args.disk.now) (g.met.D.Disk.settled_is_only _ c.in_ok-write_record.ensures.settled)
    c.in_ok-write_record.ensures.written c.write_record.ensures.images c.open_gate.ensures.images

pub returns-clause-gate : goal.returns-clause-gate
returns-clause-gate g c = gate_behind _ _ _ _ _ c.requires.gate c.in_ok-write_record.ensures.written c.in_ok-open_gate.ensures.written

pub returns-clause-gated : goal.returns-clause-gated
returns-clause-gated g c = λ node payloads payload is small stands.
    both_made _ _ _ _ _ _ _ _ stands is small c.in_ok-write_record.ensures.written c.in_ok-open_gate.ensures.written

pub returns-clause-images : goal.returns-clause-images
returns-clause-images g c = λ payload is small.
    told_adds g.D.Disk.clock _ _ _ _ _ _ _ payload _ is small (g.met.D.Disk.seen_is_image c.args.disk.now) (g.met.D.Disk.settled_is_only _ c.in_ok-write_record.ensures.settled)
    c.in_ok-write_record.ensures.written c.write_record.ensures.images c.open_gate.ensures.images

pub returns-clause-all : goal.returns-clause-all
returns-clause-all g c = λ payload is small.
    told_all g.D.Disk.clock _ _ _ _ _ _ _ payload _ is small (g.met.D.Disk.seen_is_image c.args.disk.now) (g.met.D.Disk.settled_is_only _ c.in_ok-write_record.ensures.settled)
    (g.met.D.Disk.settled_is_only _ c.in_ok-open_gate.ensures.settled) c.in_ok-write_record.ensures.written c.in_ok-open_gate.ensures.written
