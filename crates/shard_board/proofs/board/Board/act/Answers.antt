use Rattle.node_store.specs.Disks.{view_of}
use Rattle.shard_board.proofs.Turning.{said_else, deed_still}
use Rattle.shard_board.proofs.board.Board.act.Goals as goal

pub take-requires-clause-work : goal.take-requires-clause-work
take-requires-clause-work g c = λ part k. (k.ready c.requires.pass.1.ready, c.requires.asks part.world k.plan)

pub returns-clause-turn : goal.returns-clause-turn
returns-clause-turn g c = said_else (view_of g.D.Disk.seen g.D.Disk.faults g.D.Disk.clock) _ _ c.args.self.now c.args.pass.now _ _ _ (λ old new did. did.0) c.take.ensures.turn

pub returns-clause-still : goal.returns-clause-still
returns-clause-still g c = λ blind. deed_still (view_of g.D.Disk.seen g.D.Disk.faults g.D.Disk.clock) _ (g.T.Deed.blind c.args.deed) c.args.self.now c.args.pass.now _ _ c.take.ensures.turn blind
