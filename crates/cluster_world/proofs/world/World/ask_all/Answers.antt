use Rattle.std.proofs.lemmas.Result.{err_from_is_err_and}
use Rattle.node_store.specs.Disks.{view_of}
use Rattle.cluster_world.proofs.Rounds.{group_halts, asks_halt, answers_halt, round_is}
use Rattle.cluster_world.proofs.world.World.ask_all.Goals as goal

pub returns-in_err-step_on-clause-asked : goal.returns-in_err-step_on-clause-asked
returns-in_err-step_on-clause-asked g c =
    let p = err_from_is_err_and c.from_residual.result c.from_residual.ensures.1 in
    rw (p.1, p.2) (group_halts (view_of g.D.Disk.seen g.D.Disk.faults g.D.Disk.clock) _ _ _ _ c.in_err-step_on.ensures.did)

pub returns-in_err-old-clause-asked : goal.returns-in_err-old-clause-asked
returns-in_err-old-clause-asked g c =
    let p = err_from_is_err_and c.from_residual-in_err-old.result c.from_residual-in_err-old.ensures.1 in
    rw (p.1, p.2) (asks_halt (view_of g.D.Disk.seen g.D.Disk.faults g.D.Disk.clock) _ _ _ _ _ _ c.in_ok-step_on.ensures.did c.in_err-old.ensures.posted)

pub returns-in_err-post_up_to-clause-asked : goal.returns-in_err-post_up_to-clause-asked
returns-in_err-post_up_to-clause-asked g c =
    let p = err_from_is_err_and c.from_residual-in_err-post_up_to.result c.from_residual-in_err-post_up_to.ensures.1 in
    rw (p.1, p.2) (answers_halt (view_of g.D.Disk.seen g.D.Disk.faults g.D.Disk.clock) _ _ _ _ _ _ _ _ _ _ c.in_ok-step_on.ensures.did c.in_ok-old.ensures.posted c.in_err-post_up_to.ensures.posted)

pub returns-clause-asked : goal.returns-clause-asked
returns-clause-asked g c =
    round_is (view_of g.D.Disk.seen g.D.Disk.faults g.D.Disk.clock) _ _ _ _ _ _ _ _ _ _ _ c.sent-before.ensures c.sent-asked.ensures c.sent-answered.ensures c.in_ok-step_on.ensures.did c.in_ok-old.ensures.posted c.in_ok-post_up_to.ensures.posted
