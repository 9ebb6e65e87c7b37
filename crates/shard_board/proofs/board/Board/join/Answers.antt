use Rattle.shard_board.proofs.Paged.{joins_so}
use Rattle.shard_board.proofs.board.Board.join.Goals as goal

pub returns-clause-join : goal.returns-clause-join
returns-clause-join g c = joins_so c.args.self.now c.args.pass.now c.args.other _ c.join.ensures.join c.counts_of_both-pass.ensures
