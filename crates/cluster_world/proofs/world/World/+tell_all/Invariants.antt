use Rattle.cluster_world.proofs.world.World.+tell_all.Given as goal

abbrev pub decreases-tell_all : goal.decreases-tell_all
decreases-tell_all g l = l.first
