use Rattle.std.proofs.Common.{refl}
use Rattle.node_store.specs.Disks.{view_of}
use Rattle.board_desk.proofs.Turned.{still_desk, asks_turned}
use Rattle.board_desk.proofs.desk.BoardDeskDesk.ask.Goals as goal

pub act-asked-requires-clause-pass : goal.act-asked-requires-clause-pass
act-asked-requires-clause-pass g c = c.requires.belongs.belongs

pub act-asked-requires-clause-asks : goal.act-asked-requires-clause-asks
act-asked-requires-clause-asks g c = λ world same. tt

pub returns-clause-belongs : goal.returns-clause-belongs
returns-clause-belongs g c =
    still_desk (view_of g.D.Disk.seen g.D.Disk.faults g.D.Disk.clock) _ c.args.self.now.board.now c.args.pass.now c.act-asked.new.pass c.act-asked.result c.act-asked.ensures.turn c.count_asked.new.tally c.args.self.now.pattern.value (c.act-asked.ensures.still refl) c.requires.belongs c.act-asked.ensures.pass

pub returns-clause-asked : goal.returns-clause-asked
returns-clause-asked g c =
    asks_turned (view_of g.D.Disk.seen g.D.Disk.faults g.D.Disk.clock) _ c.args.self.now.board.now c.args.pass.now c.act-asked.new.pass c.act-asked.result c.act-asked.ensures.turn c.count_asked.new.tally c.args.ticket.now.begun c.act-asked.result c.act-asked.ensures.turn.work.kind c.act-asked.ensures.turn.work.adds c.count_asked.ensures.fell c.count_asked.ensures.rose
