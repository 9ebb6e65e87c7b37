use Rattle.std.proofs.Common.{refl}
use Rattle.node_store.specs.Disks.{view_of}
use Rattle.shard_board.proofs.Paged.{turned}
use Rattle.shard_board.proofs.board.Board.take.Goals as goal

pub returns-clause-turn : goal.returns-clause-turn
returns-clause-turn g c = turned (view_of g.D.Disk.seen g.D.Disk.faults g.D.Disk.clock) _ _ _ _ _ refl c.requires.pass.1 c.turn.ensures.turn
