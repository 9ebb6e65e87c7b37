use Rattle.std.proofs.Common.{refl}
use Rattle.node_store.specs.Disks.{view_of}
use Rattle.board_desk.proofs.Turned.{still_desk, leaves_turned}
use Rattle.board_desk.proofs.desk.BoardDeskDesk.leave.Goals as goal

pub act-left-requires-clause-pass : goal.act-left-requires-clause-pass
act-left-requires-clause-pass g c = c.requires.belongs.belongs

pub act-left-requires-clause-asks : goal.act-left-requires-clause-asks
act-left-requires-clause-asks g c = λ world same. tt

pub returns-clause-belongs : goal.returns-clause-belongs
returns-clause-belongs g c =
    still_desk (view_of g.D.Disk.seen g.D.Disk.faults g.D.Disk.clock) _ c.args.self.now.board.now c.args.pass.now c.act-left.new.pass c.act-left.result c.act-left.ensures.turn c.count_left.new.tally c.args.self.now.pattern.value (c.act-left.ensures.still refl) c.requires.belongs c.act-left.ensures.pass

pub returns-clause-left : goal.returns-clause-left
returns-clause-left g c =
    leaves_turned (view_of g.D.Disk.seen g.D.Disk.faults g.D.Disk.clock) _ c.args.self.now.board.now c.args.pass.now c.act-left.new.pass c.act-left.result c.act-left.ensures.turn c.count_left.new.tally c.act-left.result c.act-left.ensures.turn.work.adds c.count_left.ensures
