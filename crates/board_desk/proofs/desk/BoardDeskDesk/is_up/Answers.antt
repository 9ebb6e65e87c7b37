use Rattle.node_store.specs.Disks.{view_of}
use Rattle.board_desk.proofs.Turned.{still_desk, looks_turned, down_turned}
use Rattle.board_desk.proofs.desk.BoardDeskDesk.is_up.Goals as goal

pub is_up-life-requires : goal.is_up-life-requires
is_up-life-requires g c = record { pass = c.requires.belongs.belongs }

pub returns-clause-belongs : goal.returns-clause-belongs
returns-clause-belongs g c =
    still_desk (view_of g.D.Disk.seen g.D.Disk.faults g.D.Disk.clock) _ c.args.self.now.board.now c.args.pass.now c.is_up-life.new.pass c.is_up-life.result c.is_up-life.ensures.turn c.count_absence.new.tally c.args.self.now.pattern.value c.is_up-life.ensures.still c.requires.belongs c.is_up-life.ensures.pass

pub returns-clause-quiet : goal.returns-clause-quiet
returns-clause-quiet g c =
    looks_turned (view_of g.D.Disk.seen g.D.Disk.faults g.D.Disk.clock) _ c.args.self.now.board.now c.args.pass.now c.is_up-life.new.pass c.is_up-life.result c.is_up-life.ensures.turn c.count_absence.new.tally c.is_up-life.ensures.turn.work.same c.count_absence.ensures.fell

pub returns-clause-down : goal.returns-clause-down
returns-clause-down g c =
    down_turned (view_of g.D.Disk.seen g.D.Disk.faults g.D.Disk.clock) _ c.args.self.now.board.now c.args.pass.now c.is_up-life.new.pass c.is_up-life.result c.is_up-life.ensures.turn c.count_absence.new.tally c.is_up-life.result c.count_absence.ensures.down
