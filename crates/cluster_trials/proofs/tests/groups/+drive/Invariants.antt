use Rattle.cluster_trials.proofs.tests.groups.+drive.Given as goal

abbrev pub decreases-drive : goal.decreases-drive
decreases-drive g l = l.left
