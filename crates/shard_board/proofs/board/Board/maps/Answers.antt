use Rattle.node_store.specs.Disks.{view_of}
use Rattle.shard_board.proofs.Turning.{same_still}
use Rattle.shard_board.proofs.board.Board.maps.Goals as goal

pub returns-clause-still : goal.returns-clause-still
returns-clause-still g c = same_still (view_of g.D.Disk.seen g.D.Disk.faults g.D.Disk.clock) _ c.args.self.now c.args.pass.now _ _ c.take.ensures.turn c.take.ensures.turn.work.same
