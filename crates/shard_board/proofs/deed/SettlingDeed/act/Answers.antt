use Rattle.node_store.specs.Disks.{view_of}
use Rattle.std.proofs.Common.{inl}
use Rattle.shard_board.proofs.Keeping.{keeps_settle, settle_known_so, settles_plan, settles_longer}
use Rattle.shard_board.proofs.deed.SettlingDeed.act.Goals as goal

pub returns-clause-did : goal.returns-clause-did
returns-clause-did g c = inl c.settle.ensures.settles

pub returns-clause-sound : goal.returns-clause-sound
returns-clause-sound g c = λ known.
    let on = view_of g.D.Disk.seen g.D.Disk.faults g.D.Disk.clock in
    (keeps_settle on _ _ _ (settle_known_so on c.args.world.now known) c.settle.ensures.ready (inl c.settle.ensures.settles)).sound

pub returns-clause-plan : goal.returns-clause-plan
returns-clause-plan g c = settles_plan (view_of g.D.Disk.seen g.D.Disk.faults g.D.Disk.clock) _ _ _ (inl c.settle.ensures.settles)

pub returns-clause-longer : goal.returns-clause-longer
returns-clause-longer g c = settles_longer (view_of g.D.Disk.seen g.D.Disk.faults g.D.Disk.clock) _ _ _ (inl c.settle.ensures.settles)
