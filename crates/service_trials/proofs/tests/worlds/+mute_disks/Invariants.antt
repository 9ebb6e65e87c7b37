use Rattle.service_trials.proofs.tests.worlds.+mute_disks.Given as goal

abbrev pub decreases-mute_disks : goal.decreases-mute_disks
decreases-mute_disks l = l.nodes
