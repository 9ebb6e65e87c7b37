use Rattle.node_store.specs.Disks.{view_of}
use Rattle.board_service.proofs.Turned.{post_goes}
use Rattle.board_service.proofs.courier.post.Goals as goal

pub returns-clause-goes : goal.returns-clause-goes
returns-clause-goes g c =
    post_goes (view_of g.D.Disk.seen g.D.Disk.faults g.D.Disk.clock) c.args.board.now g.F.Fate.decides c.args.pass.now c.post_one.new.pass c.post_one.result c.post_one.ensures.pass c.post_one.ensures.turn
