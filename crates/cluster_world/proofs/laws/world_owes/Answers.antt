use Rattle.node_store.specs.Disks.{view_of}
use Rattle.cluster_world.proofs.Owed.{world_owes}
use Rattle.cluster_world.proofs.laws.world_owes.Goals as goal

pub returns : goal.returns
returns g c = world_owes (view_of g.D.Disk.seen g.D.Disk.faults g.D.Disk.clock) g.met.D.Disk.seen_is_image
