use Rattle.node_store.specs.Disks.{view_of}
use Rattle.board_service.proofs.Kept.{told_is_booked}
use Rattle.board_service.proofs.laws.told_is_booked.Goals as goal

pub returns : goal.returns
returns g c = told_is_booked (view_of g.D.Disk.seen g.D.Disk.faults g.D.Disk.clock)
