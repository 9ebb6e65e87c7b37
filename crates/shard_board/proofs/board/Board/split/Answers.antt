use Rattle.std.proofs.Common.{refl}
use Rattle.shard_board.proofs.Paged.{split_so}
use Rattle.shard_board.proofs.board.Board.split.Goals as goal

pub returns-clause-split : goal.returns-clause-split
returns-clause-split g c = split_so c.args.self.now c.args.quota c.args.pass.now _ _ c.split-lower.ensures.split refl c.no_counts-tally.ensures
