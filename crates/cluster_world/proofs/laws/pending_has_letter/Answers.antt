use Rattle.node_store.specs.Disks.{view_of}
use Rattle.cluster_world.proofs.Lasting.{pending_has_letter}
use Rattle.cluster_world.proofs.laws.pending_has_letter.Goals as goal

pub returns : goal.returns
returns g c = pending_has_letter (view_of g.D.Disk.seen g.D.Disk.faults g.D.Disk.clock)
