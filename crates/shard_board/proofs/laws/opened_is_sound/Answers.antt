use Rattle.node_store.specs.Disks.{view_of}
use Rattle.shard_board.proofs.Keeping.{opened_is_sound}
use Rattle.shard_board.proofs.laws.opened_is_sound.Goals as goal

pub returns : goal.returns
returns g c = opened_is_sound (view_of g.D.Disk.seen g.D.Disk.faults g.D.Disk.clock)
