use Rattle.std.proofs.Common.{◌≤◌, ◌-◌, length}
use Rattle.node_store.specs.Disks.{view_of}
use Rattle.cluster_world.specs.Opens.{AreOpened}
use Rattle.cluster_world.proofs.opening.open_all.Given as goal

-- the first are up, as many as there are lives
abbrev pub invariant-loop-alloc : goal.invariant-loop-alloc
invariant-loop-alloc g l = record {
  opened : AreOpened (view_of g.D.Disk.seen g.D.Disk.faults g.D.Disk.clock) g.D.Disk.settled l.plan l.lives.items l.initial.disks.items l.disks.items;
  within : length l.lives.items ≤ length l.initial.disks.items;
}

abbrev pub decreases-loop-alloc : goal.decreases-loop-alloc
decreases-loop-alloc g l = length l.disks.items - length l.lives.items
