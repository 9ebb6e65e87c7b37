use Rattle.node_store.specs.Disks.{view_of}
use Rattle.cluster_world.proofs.Chained.{makes_more}
use Rattle.cluster_world.proofs.laws.makes_more.Goals as goal

pub returns : goal.returns
returns g c = makes_more (view_of g.D.Disk.seen g.D.Disk.faults g.D.Disk.clock)
