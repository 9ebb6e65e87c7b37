use Rattle.node_store.specs.Disks.{view_of}
use Rattle.shard_board.proofs.Keeping.{sound_rests_right}
use Rattle.shard_board.proofs.laws.sound_rests_right.Goals as goal

pub returns : goal.returns
returns g c = sound_rests_right (view_of g.D.Disk.seen g.D.Disk.faults g.D.Disk.clock)
