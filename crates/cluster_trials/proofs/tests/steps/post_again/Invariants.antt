use Rattle.cluster_world.specs.Worlds.{CanMakeSteps}
use Rattle.cluster_trials.proofs.tests.steps.post_again.Given as goal

abbrev pub invariant-loop : goal.invariant-loop
invariant-loop g l = record { ready : CanMakeSteps g.D.Disk.seen l.world }
