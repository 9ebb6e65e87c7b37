use Rattle.cluster_trials.specs.Disks.{in_memory}
use Rattle.solo_desk.specs.Passes.{IsPass}
use Rattle.desk_trials.proofs.tests.talks.all_go.Given as goal

abbrev pub invariant-loop-talk : goal.invariant-loop-talk
invariant-loop-talk g l = record { belongs : IsPass in_memory l.pass }
