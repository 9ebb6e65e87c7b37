use Rattle.std.proofs.Common.{arith}
use Rattle.drive_tape.proofs.Heads.{head_start, head_goes_on, head_stops, head_ends, head_fits}
use Rattle.drive_tape.proofs.plan_head.read_drive_head.Goals as goal

pub loop-count-init : goal.loop-count-init
loop-count-init g c = rw c.new-draft.ensures (record { progress = head_start _; unread = omega arith; read_later = omega arith })

pub loop-count-preserved : goal.loop-count-preserved
loop-count-preserved g c =
    let loop = c.loop-count.invariant in
    let turn = c.in-Ok-Line.ensures in
    record {
      progress = head_goes_on _ _ _ _ _ _ _ _ loop.progress (rw c.in-Ok-Line.field-0-is at turn.turned);
      unread = omega (arith, loop.unread, turn.less);
      read_later = omega (arith, loop.read_later, turn.read_later);
    }

pub returns-in-Ok-End-clause-plan : goal.returns-in-Ok-End-clause-plan
returns-in-Ok-End-clause-plan g c =
    head_ends _ _ _ _ _ _ _ _ _ c.loop-count.invariant.progress (rw c.in-Ok-End.field-0-is at c.in-Ok-End.ensures.turned) c.finish.ensures

pub returns-in-Err-clause-plan : goal.returns-in-Err-clause-plan
returns-in-Err-clause-plan g c =
    head_stops _ _ _ _ _ _ _ _ _ _ c.loop-count.invariant.progress c.in-Err.ensures.turned c.at_line.ensures.stop c.at_line.ensures.number

pub returns-in-Ok-End-clause-fits : goal.returns-in-Ok-End-clause-fits
returns-in-Ok-End-clause-fits g c =
    head_fits _ _ _ _ _ _ _ _ _ c.loop-count.invariant.progress (rw c.in-Ok-End.field-0-is at c.in-Ok-End.ensures.turned) c.finish.ensures
