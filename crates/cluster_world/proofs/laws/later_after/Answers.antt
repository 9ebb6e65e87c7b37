use Rattle.node_store.specs.Disks.{view_of}
use Rattle.cluster_world.proofs.Chained.{later_after}
use Rattle.cluster_world.proofs.laws.later_after.Goals as goal

pub returns : goal.returns
returns g c = later_after (view_of g.D.Disk.seen g.D.Disk.faults g.D.Disk.clock)
