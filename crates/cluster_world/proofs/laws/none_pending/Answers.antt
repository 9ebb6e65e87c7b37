use Rattle.node_store.specs.Disks.{view_of}
use Rattle.cluster_world.proofs.Owed.{none_pending}
use Rattle.cluster_world.proofs.laws.none_pending.Goals as goal

pub returns : goal.returns
returns g c = none_pending (view_of g.D.Disk.seen g.D.Disk.faults g.D.Disk.clock)
