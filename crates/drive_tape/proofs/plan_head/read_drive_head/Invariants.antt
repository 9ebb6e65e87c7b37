use Rattle.std.proofs.Common.{◌+◌, ◌≤◌, ◌^◌}
use Rattle.drive_tape.specs.Plans.{PlanProgress}
use Rattle.drive_tape.proofs.plan_head.read_drive_head.Given as goal

abbrev pub invariant-loop-count : goal.invariant-loop-count
invariant-loop-count g l = record {
  progress : PlanProgress (g.S.Source.left l.fn.source) (g.S.Source.left l.source) l.draft l.count l.room;
  unread : l.count + l.room ≤ 2 ^ 40;
  read_later : g.S.Source.faults l.fn.source ≤ g.S.Source.faults l.source;
}

abbrev pub decreases-loop-count : goal.decreases-loop-count
decreases-loop-count g l = l.room
