use Rattle.node_store.specs.Disks.{view_of}
use Rattle.shard_board.proofs.Keeping.{flows_keep_world}
use Rattle.shard_board.proofs.laws.flows_keep_world.Goals as goal

pub returns : goal.returns
returns g c = flows_keep_world (view_of g.D.Disk.seen g.D.Disk.faults g.D.Disk.clock)
