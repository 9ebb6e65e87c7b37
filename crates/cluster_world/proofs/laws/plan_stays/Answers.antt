use Rattle.node_store.specs.Disks.{view_of}
use Rattle.cluster_world.proofs.Chained.{plan_stays}
use Rattle.cluster_world.proofs.laws.plan_stays.Goals as goal

pub returns : goal.returns
returns g c = plan_stays (view_of g.D.Disk.seen g.D.Disk.faults g.D.Disk.clock)
