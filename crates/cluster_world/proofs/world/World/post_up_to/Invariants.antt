use Rattle.std.proofs.Common.{◌≡◌, ◌-◌, ◌≤◌, List}
use Rattle.node_store.specs.Disks.{view_of}
use Rattle.cluster_world.specs.Worlds.{state_of, CanMakeSteps}
use Rattle.cluster_world.specs.Steps.{AreSettled}
use Rattle.cluster_world.specs.Made.{StepMade}
use Rattle.cluster_world.specs.Regroups.{ArePosted}
use Rattle.cluster_world.proofs.world.World.post_up_to.Given as goal

-- the letters so far were posted
abbrev pub invariant-loop-posted : goal.invariant-loop-posted
invariant-loop-posted g l = record {
  ready : CanMakeSteps g.D.Disk.seen l.self;
  low : l.after ≤ l.posted;
  high : l.posted - l.after ≤ l.last - l.after;
  so_far : (steps : List StepMade) × ArePosted (view_of g.D.Disk.seen g.D.Disk.faults g.D.Disk.clock) l.after (l.posted - l.after) l.old l.initial.self l.self steps;
  settled : AreSettled g.D.Disk.settled (state_of l.initial.self) → AreSettled g.D.Disk.settled (state_of l.self);
}

abbrev pub decreases-loop-posted : goal.decreases-loop-posted
decreases-loop-posted g l = l.last - l.posted
