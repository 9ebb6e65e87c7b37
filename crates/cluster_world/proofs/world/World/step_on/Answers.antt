use Rattle.std.proofs.Common.{Ok, sym, ◌∙◌, subst}
use Rattle.node_store.specs.Disks.{view_of}
use Rattle.cluster_world.specs.Steps.{IsStep}
use Rattle.cluster_world.specs.declared.step.Said.{Said}
use Rattle.cluster_world.proofs.Rounds.{faulted_is}
use Rattle.cluster_world.proofs.world.World.step_on.Goals as goal

pub returns-in-Some-clause-did : goal.returns-in-Some-clause-did
returns-in-Some-clause-did g c =
    subst (λ (s : Said). IsStep (view_of g.D.Disk.seen g.D.Disk.faults g.D.Disk.clock) (Ok s) c.args.step c.args.self.now c.step.new.self) (faulted_is _ _ (sym c.failed.ensures ∙ c.in-Some.is)) c.in_ok-said.ensures.is
