use Rattle.node_store.specs.Disks.{view_of}
use Rattle.board_service.proofs.Turned.{look_goes}
use Rattle.board_service.proofs.courier.life_of.Goals as goal

pub returns-clause-goes : goal.returns-clause-goes
returns-clause-goes g c =
    look_goes (view_of g.D.Disk.seen g.D.Disk.faults g.D.Disk.clock) c.args.board.now c.args.node c.args.pass.now c.is_up.new.pass c.is_up.result c.is_up.ensures.pass c.is_up.ensures.turn
