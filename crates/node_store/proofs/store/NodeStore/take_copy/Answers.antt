use Rattle.std.proofs.Common.{arith}
use Rattle.std.proofs.lemmas.Result.{err_from_is_err_and}
use Rattle.node_store.specs.Disks.{view_of}
use Rattle.node_store.proofs.Grown.{one_grows}
use Rattle.node_store.proofs.Silent.{nothing_stopped}
use Rattle.node_store.proofs.store.NodeStore.take_copy.Goals as goal

pub returns-in_err-key-clause-wrote : goal.returns-in_err-key-clause-wrote
returns-in_err-key-clause-wrote g c =
    let p = err_from_is_err_and c.from_residual.result c.from_residual.ensures.1 in
    rw (p.1, p.2) (nothing_stopped (view_of g.D.Disk.seen g.D.Disk.faults g.D.Disk.clock) _ c.args.self.now c.args.disk.now (one_grows c.args.self.now.own _), omega arith)
