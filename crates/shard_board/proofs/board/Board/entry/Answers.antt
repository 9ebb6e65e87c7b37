use Rattle.node_store.specs.Disks.{view_of}
use Rattle.shard_board.proofs.Turning.{same_still, reads_own, reads_seen}
use Rattle.shard_board.proofs.board.Board.entry.Goals as goal

pub returns-clause-own : goal.returns-clause-own
returns-clause-own g c = reads_own (view_of g.D.Disk.seen g.D.Disk.faults g.D.Disk.clock) c.args.place c.args.self.now c.args.pass.now _ _ c.take.ensures.turn

pub returns-clause-seen : goal.returns-clause-seen
returns-clause-seen g c = reads_seen (view_of g.D.Disk.seen g.D.Disk.faults g.D.Disk.clock) c.args.place c.args.self.now c.args.pass.now _ _ c.take.ensures.turn

pub returns-clause-still : goal.returns-clause-still
returns-clause-still g c = same_still (view_of g.D.Disk.seen g.D.Disk.faults g.D.Disk.clock) _ c.args.self.now c.args.pass.now _ _ c.take.ensures.turn c.take.ensures.turn.work.same
