use Rattle.node_store.specs.Disks.{view_of}
use Rattle.cluster_world.proofs.Chained.{steps_are_counted}
use Rattle.cluster_world.proofs.laws.steps_are_counted.Goals as goal

pub returns : goal.returns
returns g c = steps_are_counted (view_of g.D.Disk.seen g.D.Disk.faults g.D.Disk.clock)
