use Rattle.node_store.specs.Disks.{view_of}
use Rattle.board_service.proofs.Turned.{goes_both}
use Rattle.board_service.proofs.courier.ask_and_push.Goals as goal

pub returns-clause-goes : goal.returns-clause-goes
returns-clause-goes g c =
    goes_both (view_of g.D.Disk.seen g.D.Disk.faults g.D.Disk.clock) c.args.board.now c.args.pass.now c.life_of-life.new.pass c.push_to.new.pass c.life_of-life.ensures.goes c.push_to.ensures.goes
