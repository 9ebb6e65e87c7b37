use Rattle.std.proofs.lemmas.Result.{err_from_is_err_and}
use Rattle.node_store.specs.Disks.{view_of}
use Rattle.cluster_world.proofs.Rounds.{conclude_halts, installs_halt, conclusion_is}
use Rattle.cluster_world.proofs.world.World.conclude_all.Goals as goal

pub returns-in_err-epoch-clause-concluded : goal.returns-in_err-epoch-clause-concluded
returns-in_err-epoch-clause-concluded g c =
    let p = err_from_is_err_and c.from_residual.result c.from_residual.ensures.1 in
    rw (p.1, p.2) (conclude_halts (view_of g.D.Disk.seen g.D.Disk.faults g.D.Disk.clock) _ _ _ _ c.in_err-epoch.ensures.did)

pub returns-in_err-post_up_to-clause-concluded : goal.returns-in_err-post_up_to-clause-concluded
returns-in_err-post_up_to-clause-concluded g c =
    let p = err_from_is_err_and c.from_residual-in_err-post_up_to.result c.from_residual-in_err-post_up_to.ensures.1 in
    rw (p.1, p.2) (installs_halt (view_of g.D.Disk.seen g.D.Disk.faults g.D.Disk.clock) _ _ _ _ _ _ c.in_ok-epoch.ensures.did c.in_err-post_up_to.ensures.posted)

pub returns-clause-concluded : goal.returns-clause-concluded
returns-clause-concluded g c =
    conclusion_is (view_of g.D.Disk.seen g.D.Disk.faults g.D.Disk.clock) _ _ _ _ _ _ _ _ _ c.sent-before.ensures c.sent-sent.ensures (rw c.in-Concluded.is at c.in_ok-epoch.ensures.did) c.in_ok-post_up_to.ensures.posted
