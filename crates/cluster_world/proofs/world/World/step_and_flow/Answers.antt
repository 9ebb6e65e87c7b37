use Rattle.std.proofs.lemmas.Result.{err_from_is_err_and}
use Rattle.node_store.specs.Disks.{view_of}
use Rattle.cluster_world.proofs.Settles.{step_halts, step_flows}
use Rattle.cluster_world.proofs.world.World.step_and_flow.Goals as goal

pub returns-in_err-step_on-clause-made : goal.returns-in_err-step_on-clause-made
returns-in_err-step_on-clause-made g c =
    let p = err_from_is_err_and c.from_residual.result c.from_residual.ensures.1 in
    rw (p.1, p.2) (step_halts (view_of g.D.Disk.seen g.D.Disk.faults g.D.Disk.clock) _ _ _ _ c.in_err-step_on.ensures.did)

pub returns-clause-made : goal.returns-clause-made
returns-clause-made g c = step_flows (view_of g.D.Disk.seen g.D.Disk.faults g.D.Disk.clock) _ _ _ _ _ _ c.in_ok-step_on.ensures.did c.flow_on.ensures.flowed
