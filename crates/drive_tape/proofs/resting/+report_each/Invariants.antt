use Rattle.drive_tape.proofs.resting.+report_each.Given as goal

abbrev pub decreases-report_each : goal.decreases-report_each
decreases-report_each g l = l.nodes
