use Rattle.board_trials.proofs.tests.letters.+looks.Given as goal

abbrev pub decreases-looks : goal.decreases-looks
decreases-looks g l = l.most
