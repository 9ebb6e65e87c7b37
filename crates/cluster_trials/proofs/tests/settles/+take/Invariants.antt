use Rattle.cluster_trials.proofs.tests.settles.+take.Given as goal

abbrev pub decreases-take : goal.decreases-take
decreases-take g l = l.messages
