use Rattle.board_trials.proofs.tests.work.+goes_round.Given as goal

abbrev pub decreases-goes_round : goal.decreases-goes_round
decreases-goes_round g l = l.left
