use Rattle.cluster_trials.proofs.tests.groups.+is_new.Given as goal

abbrev pub decreases-is_new : goal.decreases-is_new
decreases-is_new l = l.left
