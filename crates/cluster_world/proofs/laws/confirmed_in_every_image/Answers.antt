use Rattle.node_store.specs.Disks.{view_of}
use Rattle.cluster_world.proofs.Lasting.{confirmed_in_every_image}
use Rattle.cluster_world.proofs.laws.confirmed_in_every_image.Goals as goal

pub returns : goal.returns
returns g c = confirmed_in_every_image (view_of g.D.Disk.seen g.D.Disk.faults g.D.Disk.clock)
