use Rattle.node_store.specs.Disks.{view_of}
use Rattle.cluster_world.proofs.Wholes.{one_map_per_epoch}
use Rattle.cluster_world.proofs.laws.one_map_per_epoch.Goals as goal

pub returns : goal.returns
returns g c = one_map_per_epoch (view_of g.D.Disk.seen g.D.Disk.faults g.D.Disk.clock)
