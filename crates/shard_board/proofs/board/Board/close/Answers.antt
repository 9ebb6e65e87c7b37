use Rattle.node_store.specs.Disks.{view_of}
use Rattle.shard_board.proofs.Paged.{closed}
use Rattle.shard_board.proofs.board.Board.close.Goals as goal

pub returns : goal.returns
returns g c = record { closed = closed (view_of g.D.Disk.seen g.D.Disk.faults g.D.Disk.clock) c.args.self c.args.pass c.close-world.result c.requires.pass.1 c.requires.pass.2 c.close-world.ensures }
