use Rattle.cluster_trials.proofs.tests.orders.+drive.Given as goal

abbrev pub decreases-drive : goal.decreases-drive
decreases-drive g l = l.left
