use Rattle.std.proofs.Common.{refl}
use Rattle.node_store.specs.Disks.{view_of}
use Rattle.board_desk.proofs.Turned.{still_desk, refuses_turned}
use Rattle.board_desk.proofs.desk.BoardDeskDesk.give_up.Goals as goal

pub act-ended-requires-clause-pass : goal.act-ended-requires-clause-pass
act-ended-requires-clause-pass g c = c.requires.belongs.belongs

pub act-ended-requires-clause-asks : goal.act-ended-requires-clause-asks
act-ended-requires-clause-asks g c = λ world same. tt

pub returns-clause-belongs : goal.returns-clause-belongs
returns-clause-belongs g c =
    still_desk (view_of g.D.Disk.seen g.D.Disk.faults g.D.Disk.clock) _ c.args.self.now.board.now c.args.pass.now c.act-ended.new.pass c.act-ended.result c.act-ended.ensures.turn c.count_if_refused.new.tally c.args.self.now.pattern.value (c.act-ended.ensures.still refl) c.requires.belongs c.act-ended.ensures.pass

pub returns-clause-quiet : goal.returns-clause-quiet
returns-clause-quiet g c =
    refuses_turned (view_of g.D.Disk.seen g.D.Disk.faults g.D.Disk.clock) _ c.args.self.now.board.now c.args.pass.now c.act-ended.new.pass c.act-ended.result c.act-ended.ensures.turn c.count_if_refused.new.tally c.act-ended.result c.act-ended.ensures.turn.work.never c.act-ended.ensures.turn.work.adds c.count_if_refused.ensures.fell c.count_if_refused.ensures.rose
