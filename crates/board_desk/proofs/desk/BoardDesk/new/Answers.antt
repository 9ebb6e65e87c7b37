use Rattle.node_store.specs.Disks.{view_of}
use Rattle.board_desk.proofs.Patterns.{fits, still_fits}
use Rattle.board_desk.proofs.desk.BoardDesk.new.Goals as goal

pub returns-clause-belongs : goal.returns-clause-belongs
returns-clause-belongs g c = fits (view_of g.D.Disk.seen g.D.Disk.faults g.D.Disk.clock) c.args.board.now c.of-pattern.result.value c.args.pass.now c.of-pattern.ensures

pub returns-clause-still : goal.returns-clause-still
returns-clause-still g c = still_fits (view_of g.D.Disk.seen g.D.Disk.faults g.D.Disk.clock) c.args.board.now c.of-pattern.result.value c.args.pass.now c.of-pattern.ensures
