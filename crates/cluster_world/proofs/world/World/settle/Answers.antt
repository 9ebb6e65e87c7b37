use Rattle.std.proofs.Common.{Result, sym, ◌∙◌, subst}
use Rattle.node_store.specs.Disks.{view_of}
use Rattle.cluster_world.specs.Rests.{HasSettled}
use Rattle.cluster_world.specs.declared.fault.StepFault.{StepFault}
use Rattle.cluster_world.specs.declared.settling.Settle.{Settle}
use Rattle.cluster_world.proofs.Settles.{none_absent, nothing_done, absent_is}
use Rattle.cluster_world.proofs.SettledWhole.{has_settled}
use Rattle.cluster_world.proofs.world.World.settle.Goals as goal

pub returns-in-Some-clause-settles : goal.returns-in-Some-clause-settles
returns-in-Some-clause-settles g c =
    let on = view_of g.D.Disk.seen g.D.Disk.faults g.D.Disk.clock in
    has_settled on _ _ _ (nothing_done on _ _ (absent_is _ _ _ c.rest.ensures (sym c.absent.ensures ∙ c.in-Some.is)))

pub settle_on-requires-clause-present : goal.settle_on-requires-clause-present
settle_on-requires-clause-present g c = none_absent (view_of g.D.Disk.seen g.D.Disk.faults g.D.Disk.clock) _ _ c.rest.ensures (sym c.absent.ensures ∙ c.in_default.is)

pub returns-in-Ok-clause-settles : goal.returns-in-Ok-clause-settles
returns-in-Ok-clause-settles g c = has_settled (view_of g.D.Disk.seen g.D.Disk.faults g.D.Disk.clock) _ _ _ c.in-Ok.ensures.goes

pub returns-in-Err-clause-settles : goal.returns-in-Err-clause-settles
returns-in-Err-clause-settles g c =
    let on = view_of g.D.Disk.seen g.D.Disk.faults g.D.Disk.clock in
    subst (λ (r : Result Settle StepFault). HasSettled on r c.args.self.now c.settle_on.new.self) (sym c.ended.ensures) (has_settled on _ _ _ c.in-Err.ensures.goes)
