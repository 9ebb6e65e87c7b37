use Rattle.std.proofs.Common.{refl}
use Rattle.shard_board.proofs.board.Board.regroup.Goals as goal

pub returns-clause-still : goal.returns-clause-still
returns-clause-still g c = c.act.ensures.still refl
