use Rattle.node_store.specs.Disks.{view_of}
use Rattle.cluster_world.proofs.AtOpening.{opening_is_at_rest as law}
use Rattle.cluster_world.proofs.laws.opening_is_at_rest.Goals as goal

pub returns : goal.returns
returns g c = law (view_of g.D.Disk.seen g.D.Disk.faults g.D.Disk.clock)
