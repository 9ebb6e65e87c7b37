use Rattle.node_store.specs.Disks.{view_of}
use Rattle.cluster_world.proofs.Righted.{rests_right as law}
use Rattle.cluster_world.proofs.laws.rests_right.Goals as goal

pub returns : goal.returns
returns g c = law (view_of g.D.Disk.seen g.D.Disk.faults g.D.Disk.clock)
