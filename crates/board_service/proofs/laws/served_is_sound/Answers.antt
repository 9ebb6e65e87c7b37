use Rattle.node_store.specs.Disks.{view_of}
use Rattle.board_service.proofs.Over.{served_is_sound}
use Rattle.board_service.proofs.laws.served_is_sound.Goals as goal

pub returns : goal.returns
returns g c = served_is_sound (view_of g.D.Disk.seen g.D.Disk.faults g.D.Disk.clock)
