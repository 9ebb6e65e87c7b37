use Rattle.node_store.specs.Disks.{view_of}
use Rattle.settled_worlds.proofs.Owed.{world_owes_settled}
use Rattle.settled_worlds.proofs.laws.world_owes_settled.Goals as goal

pub returns : goal.returns
returns g c = world_owes_settled (view_of g.D.Disk.seen g.D.Disk.faults g.D.Disk.clock)
