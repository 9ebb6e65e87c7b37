use Rattle.std.proofs.Common.{◌≡◌, []}
use Rattle.node_store.specs.Disks.{view_of}
use Rattle.cluster_world.specs.Steps.{AreSettled}
use Rattle.cluster_world.specs.Settling.{Swept, HasLeft}
use Rattle.cluster_world.specs.Worlds.{state_of, CanMakeSteps}
use Rattle.cluster_world.specs.Made.{StepMade}
use Rattle.std.proofs.Common.{List}
use Rattle.cluster_world.proofs.world.World.sweep_all.Given as goal

-- each sweep so far sent a letter
abbrev pub invariant-loop-alloc : goal.invariant-loop-alloc
invariant-loop-alloc g l = record {
  ready : CanMakeSteps g.D.Disk.seen l.self;
  swept : (steps : List StepMade) × Swept (view_of g.D.Disk.seen g.D.Disk.faults g.D.Disk.clock) l.initial.self l.self steps;
  left : HasLeft l.left l.self;
  settled : AreSettled g.D.Disk.settled (state_of l.initial.self) → AreSettled g.D.Disk.settled (state_of l.self);
}

abbrev pub decreases-loop-alloc : goal.decreases-loop-alloc
decreases-loop-alloc g l = l.left
