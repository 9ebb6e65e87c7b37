use Rattle.cluster_trials.proofs.fresh.+fresh_disks.Given as goal

abbrev pub decreases-fresh_disks : goal.decreases-fresh_disks
decreases-fresh_disks l = l.nodes
