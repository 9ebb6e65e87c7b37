use Rattle.node_store.specs.Disks.{view_of}
use Rattle.shard_board.proofs.Keeping.{known_so, keeps_step}
use Rattle.shard_board.proofs.deed.SteppingDeed.act.Goals as goal

pub returns-clause-sound : goal.returns-clause-sound
returns-clause-sound g c = λ known.
    let on = (view_of g.D.Disk.seen g.D.Disk.faults g.D.Disk.clock) in
    (keeps_step on _ _ _ _ (known_so on c.args.world.now c.args.self.step known) c.requires.asks c.step.ensures.ready c.step.ensures.is).sound
