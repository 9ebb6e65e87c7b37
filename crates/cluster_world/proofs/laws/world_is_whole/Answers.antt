use Rattle.node_store.specs.Disks.{view_of}
use Rattle.cluster_world.proofs.Wholes.{world_is_whole}
use Rattle.cluster_world.proofs.laws.world_is_whole.Goals as goal

pub returns : goal.returns
returns g c = world_is_whole (view_of g.D.Disk.seen g.D.Disk.faults g.D.Disk.clock)
