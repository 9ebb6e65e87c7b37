use Rattle.std.proofs.Common.{ℕ, subst}
use Rattle.std.proofs.lemmas.Result.{err_from_is_err_and}
use Rattle.node_store.specs.Disks.{view_of}
use Rattle.cluster_world.specs.Made.{others_in}
use Rattle.drive_tape.specs.Moved.{HasReported, IsRefusedReport}
use Rattle.drive_tape.proofs.Reports.{report_done, report_denied}
use Rattle.drive_tape.proofs.resting.report.Goals as goal

pub returns-in_err-sent-clause-moved : goal.returns-in_err-sent-clause-moved
returns-in_err-sent-clause-moved g c start outcomes awaited been fit =
    let on = view_of g.D.Disk.seen g.D.Disk.faults g.D.Disk.clock in
    let e = err_from_is_err_and c.from_residual.result c.from_residual.ensures.1 in
    let refused = subst (λ (m : ℕ). IsRefusedReport on c.args.from (others_in c.args.from m 16) c.in_err-sent.field-0.0 c.args.world.now c.report_each.new.world) c.members-members.ensures c.in_err-sent.ensures.reported in
    rw (e.1, e.2) (report_denied on c.args.from start c.args.world.now outcomes awaited been fit c.report_each.new.world c.in_err-sent.field-0.0 refused)

pub returns-clause-moved : goal.returns-clause-moved
returns-clause-moved g c start outcomes awaited been fit =
    let on = view_of g.D.Disk.seen g.D.Disk.faults g.D.Disk.clock in
    report_done on c.args.from start c.args.world.now outcomes awaited been fit c.report_each.new.world c.in_ok-sent.sent
    (subst (λ (m : ℕ). HasReported on c.args.from (others_in c.args.from m 16) c.in_ok-sent.sent c.args.world.now c.report_each.new.world) c.members-members.ensures c.in_ok-sent.ensures.reported)
