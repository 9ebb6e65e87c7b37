use Rattle.std.specs.Prelude.{length}
use Rattle.node_trials.proofs.tests.+plays_lines.Given as goal

abbrev pub decreases-plays_lines : goal.decreases-plays_lines
decreases-plays_lines g l = length l.lines.now
