use Rattle.std.proofs.Common.{◌≡◌, ◌&&◌, ℕ, true, not, nat_eq, Ok, Err, sym, ◌∙◌, subst, arith}
use Rattle.std.proofs.lemmas.Result.{err_from_is_err_and}
use Rattle.object_model.specs.Sets.{has}
use Rattle.node_store.specs.Disks.{view_of}
use Rattle.cluster_world.specs.Made.{others_in}
use Rattle.drive_tape.specs.Moved.{ReportedSo, HasReported}
use Rattle.drive_tape.proofs.Reports.{reported_more, refused_now}
use Rattle.drive_tape.proofs.resting.+report_each.Goals as goal

pub returns-in_err-more-clause-reported : goal.returns-in_err-more-clause-reported
returns-in_err-more-clause-reported g t c =
    let on = view_of g.D.Disk.seen g.D.Disk.faults g.D.Disk.clock in
    let e = err_from_is_err_and c.from_residual-in_err-more.result c.from_residual-in_err-more.ensures.1 in
    let is = subst (λ (n : ℕ). (has c.args.members n && not (nat_eq c.args.from n)) ≡ true) c.numbered-to.ensures (sym c.is_other.ensures ∙ c.if-is_other.true) in
    let told = subst (λ (n : ℕ). ReportedSo on c.args.from n (Err c.in_err-more.field-0.0) c.report_each.new.world c.report_to.new.world) c.numbered-to.ensures c.in_err-more.ensures.reported in
    rw (e.1, e.2) (refused_now on c.args.from c.args.members c.args.nodes c.in_ok-sent.sent c.in_err-more.field-0.0 _ _ _ (omega (arith, c.if-nodes-eq0.false)) is c.in_ok-sent.ensures.reported told)

pub returns-then-is_other-clause-reported : goal.returns-then-is_other-clause-reported
returns-then-is_other-clause-reported g t c =
    let on = view_of g.D.Disk.seen g.D.Disk.faults g.D.Disk.clock in
    let is = subst (λ (n : ℕ). (has c.args.members n && not (nat_eq c.args.from n)) ≡ true) c.numbered-to.ensures (sym c.is_other.ensures ∙ c.if-is_other.true) in
    let told = subst (λ (n : ℕ). ReportedSo on c.args.from n (Ok c.in_ok-more.more) c.report_each.new.world c.report_to.new.world) c.numbered-to.ensures c.in_ok-more.ensures.reported in
    subst (λ (n : ℕ). HasReported on c.args.from (others_in c.args.from c.args.members c.args.nodes) n c.args.world.now c.report_to.new.world) (sym c.saturating_add.ensures)
    (reported_more on c.args.from c.args.members c.args.nodes c.in_ok-sent.sent c.in_ok-more.more _ _ _ (omega (arith, c.if-nodes-eq0.false)) is c.in_ok-sent.ensures.reported told)
