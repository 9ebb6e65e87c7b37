use Rattle.node_store.specs.Disks.{view_of}
use Rattle.board_service.proofs.Turned.{order_goes}
use Rattle.board_service.proofs.Said.{ordered_so}
use Rattle.board_service.proofs.obey.do_order.Goals as goal

pub returns-clause-goes : goal.returns-clause-goes
returns-clause-goes g c =
    order_goes (view_of g.D.Disk.seen g.D.Disk.faults g.D.Disk.clock) c.args.board.now c.args.ordered c.args.pass.now c.console-came.new.pass c.console-came.result
    c.console-came.ensures.pass c.console-came.ensures.turn

pub returns-clause-ordered : goal.returns-clause-ordered
returns-clause-ordered g c =
    ordered_so (view_of g.D.Disk.seen g.D.Disk.faults g.D.Disk.clock) c.args.board.now c.args.order.now c.args.number c.args.ordered c.args.pass.now c.console-came.new.pass c.console-came.result c.console-came.ensures.turn
    c.say_answer.result _ _ c.say_answer.ensures
