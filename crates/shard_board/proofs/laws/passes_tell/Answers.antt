use Rattle.shard_board.proofs.Paged.{pass_tells}
use Rattle.shard_board.proofs.laws.passes_tell.Goals as goal

pub returns : goal.returns
returns g c = pass_tells g.D.Disk.seen
