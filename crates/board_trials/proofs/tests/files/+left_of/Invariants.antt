use Rattle.std.specs.Prelude.{length}
use Rattle.board_trials.proofs.tests.files.+left_of.Given as goal

abbrev pub decreases-left_of : goal.decreases-left_of
decreases-left_of g l = length l.rows.now
