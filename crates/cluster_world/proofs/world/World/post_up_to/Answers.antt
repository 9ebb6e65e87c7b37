use Rattle.std.proofs.Common.{arith}
use Rattle.std.proofs.lemmas.Result.{err_from_is_err_and}
use Rattle.node_store.specs.Disks.{view_of}
use Rattle.cluster_world.proofs.Rounds.{post_halts, one_more_behind}
use Rattle.cluster_world.proofs.world.World.post_up_to.Goals as goal

pub returns-in_err-said-clause-posted : goal.returns-in_err-said-clause-posted
returns-in_err-said-clause-posted g c =
    let p = err_from_is_err_and c.from_residual.result c.from_residual.ensures.1 in
    let so = c.loop-posted.invariant.so_far in
    rw (p.1, p.2) (post_halts (view_of g.D.Disk.seen g.D.Disk.faults g.D.Disk.clock) _ _ _ _ _ _ so.0 _ _ so.1 c.in_err-said.ensures.did)

pub loop-posted-preserved : goal.loop-posted-preserved
loop-posted-preserved g c = record {
  ready = c.in_ok-said.ensures.ready;
  low = omega (arith, c.loop-posted.invariant.low);
  high = omega (arith, c.loop-posted.invariant.low, c.loop-posted-test.true);
  so_far = one_more_behind (view_of g.D.Disk.seen g.D.Disk.faults g.D.Disk.clock) _ _ _ _ _ _ c.in_ok-said.said c.loop-posted.invariant.low c.loop-posted.invariant.so_far c.in_ok-said.ensures.did
      c.or_old-old.result c.or_old-old.ensures;
  settled = λ s. c.in_ok-said.ensures.settled (c.loop-posted.invariant.settled s);
}
