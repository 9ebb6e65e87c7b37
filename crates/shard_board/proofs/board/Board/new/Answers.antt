use Rattle.std.proofs.Common.{refl}
use Rattle.node_store.specs.Disks.{view_of}
use Rattle.shard_board.proofs.Paged.{new_so}
use Rattle.shard_board.proofs.board.Board.new.Goals as goal

pub returns-in-Ok-clause-made : goal.returns-in-Ok-clause-made
returns-in-Ok-clause-made g c = new_so (view_of g.D.Disk.seen g.D.Disk.faults g.D.Disk.clock) c.args.world c.args.passes _ _ _ c.in-Ok.ensures.ok refl c.new.ensures.items c.requires.sound c.no_counts-tally.ensures
