use Rattle.node_store.specs.Disks.{view_of}
use Rattle.shard_board.specs.declared.order.Order.TheVariants as order
use Rattle.board_service.proofs.Turned.{order_goes}
use Rattle.board_service.proofs.courier.report.Goals as goal

pub returns-clause-goes : goal.returns-clause-goes
returns-clause-goes g c =
    order_goes (view_of g.D.Disk.seen g.D.Disk.faults g.D.Disk.clock) c.args.board.now (order.Report c.args.from c.args.to) c.args.pass.now c.console-told.new.pass c.console-told.result
    c.console-told.ensures.pass c.console-told.ensures.turn
