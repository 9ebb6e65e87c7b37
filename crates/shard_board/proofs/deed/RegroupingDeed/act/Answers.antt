use Rattle.node_store.specs.Disks.{view_of}
use Rattle.std.proofs.Common.{inl}
use Rattle.shard_board.proofs.Keeping.{keeps_regroup}
use Rattle.shard_board.proofs.deed.RegroupingDeed.act.Goals as goal

pub returns-clause-did : goal.returns-clause-did
returns-clause-did g c = inl c.regroup.ensures.regrouped

pub returns-clause-sound : goal.returns-clause-sound
returns-clause-sound g c = λ known.
    (keeps_regroup (view_of g.D.Disk.seen g.D.Disk.faults g.D.Disk.clock) _ _ _ _ c.regroup.ensures.ready (inl c.regroup.ensures.regrouped)).sound

pub returns-clause-plan : goal.returns-clause-plan
returns-clause-plan g c = (keeps_regroup (view_of g.D.Disk.seen g.D.Disk.faults g.D.Disk.clock) _ _ _ _ c.regroup.ensures.ready (inl c.regroup.ensures.regrouped)).plan

pub returns-clause-longer : goal.returns-clause-longer
returns-clause-longer g c = (keeps_regroup (view_of g.D.Disk.seen g.D.Disk.faults g.D.Disk.clock) _ _ _ _ c.regroup.ensures.ready (inl c.regroup.ensures.regrouped)).longer
