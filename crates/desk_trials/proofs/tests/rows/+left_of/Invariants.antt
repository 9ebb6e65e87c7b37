use Rattle.std.specs.Prelude.{length}
use Rattle.desk_trials.proofs.tests.rows.+left_of.Given as goal

abbrev pub decreases-left_of : goal.decreases-left_of
decreases-left_of l = length l.rows.now
