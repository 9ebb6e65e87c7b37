use Rattle.node_store.specs.Disks.{view_of}
use Rattle.shard_board.proofs.Keeping.{steps_keep_world}
use Rattle.shard_board.proofs.laws.steps_keep_world.Goals as goal

pub returns : goal.returns
returns g c = steps_keep_world (view_of g.D.Disk.seen g.D.Disk.faults g.D.Disk.clock)
