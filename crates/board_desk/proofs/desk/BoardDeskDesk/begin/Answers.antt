use Rattle.std.proofs.Common.{refl}
use Rattle.node_store.specs.Disks.{view_of}
use Rattle.board_desk.proofs.Turned.{still_desk, begins_turned}
use Rattle.board_desk.proofs.desk.BoardDeskDesk.begin.Goals as goal

pub act-begun-requires-clause-pass : goal.act-begun-requires-clause-pass
act-begun-requires-clause-pass g c = c.requires.belongs.belongs

pub act-begun-requires-clause-asks : goal.act-begun-requires-clause-asks
act-begun-requires-clause-asks g c = λ world same. tt

pub returns-clause-belongs : goal.returns-clause-belongs
returns-clause-belongs g c =
    still_desk (view_of g.D.Disk.seen g.D.Disk.faults g.D.Disk.clock) _ c.args.self.now.board.now c.args.pass.now c.act-begun.new.pass c.act-begun.result c.act-begun.ensures.turn c.count_if_refused.new.tally c.args.self.now.pattern.value (c.act-begun.ensures.still refl) c.requires.belongs c.act-begun.ensures.pass

pub returns-clause-began : goal.returns-clause-began
returns-clause-began g c asked seen =
    begins_turned (view_of g.D.Disk.seen g.D.Disk.faults g.D.Disk.clock) _ c.args.self.now.board.now c.args.pass.now c.act-begun.new.pass c.act-begun.result c.act-begun.ensures.turn c.count_if_refused.new.tally asked c.act-begun.result (c.act-begun.ensures.turn.work.kind asked seen) (c.act-begun.ensures.turn.work.adds asked seen) c.count_if_refused.ensures.fell c.count_if_refused.ensures.rose
