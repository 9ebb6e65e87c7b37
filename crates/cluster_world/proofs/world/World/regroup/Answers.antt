use Rattle.std.proofs.Common.{Result, sym, subst}
use Rattle.node_store.specs.Disks.{view_of}
use Rattle.cluster_world.specs.Regroups.{HasRegrouped}
use Rattle.cluster_world.specs.declared.fault.StepFault.{StepFault}
use Rattle.cluster_world.specs.declared.regrouping.Regroup.{Regroup}
use Rattle.cluster_world.proofs.Rounds.{roomy, lacks_room, has_formed, has_halted}
use Rattle.cluster_world.proofs.world.World.regroup.Goals as goal

pub returns-in-Ok-clause-regrouped : goal.returns-in-Ok-clause-regrouped
returns-in-Ok-clause-regrouped g c =
    let on = view_of g.D.Disk.seen g.D.Disk.faults g.D.Disk.clock in
    has_formed on _ _ _ _ _ (roomy on _ _ _ c.lacks_room.ensures.lacks c.if-lacks_room.false) c.lacks_room.ensures.order c.requires.ready c.in-Ok.ensures.ready c.in-Ok.ensures.formed

pub returns-in-Err-clause-regrouped : goal.returns-in-Err-clause-regrouped
returns-in-Err-clause-regrouped g c =
    let on = view_of g.D.Disk.seen g.D.Disk.faults g.D.Disk.clock in
    subst (λ (r : Result Regroup StepFault). HasRegrouped on c.args.node r c.args.self.now c.form.new.self) (sym c.ended.ensures)
    (has_halted on c.args.node c.in-Err.halt c.args.self.now c.form.new.self (roomy on _ _ _ c.lacks_room.ensures.lacks c.if-lacks_room.false) c.in-Err.ensures.formed)

pub returns-then-lacks_room-clause-regrouped : goal.returns-then-lacks_room-clause-regrouped
returns-then-lacks_room-clause-regrouped g c = lacks_room (view_of g.D.Disk.seen g.D.Disk.faults g.D.Disk.clock) _ _ _ c.lacks_room.ensures.lacks c.if-lacks_room.true
