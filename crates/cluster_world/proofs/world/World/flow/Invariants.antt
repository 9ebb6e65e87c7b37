use Rattle.node_store.specs.Disks.{view_of}
use Rattle.cluster_world.specs.Flights.{first_number}
use Rattle.cluster_world.specs.Worlds.{state_of, CanMakeSteps}
use Rattle.cluster_world.specs.Steps.{AreSettled}
use Rattle.cluster_world.proofs.Flowing.{WerePosted}
use Rattle.cluster_world.proofs.Passing.{distance_of}
use Rattle.cluster_world.proofs.world.World.flow.Given as goal

abbrev pub invariant-loop-letter : goal.invariant-loop-letter
invariant-loop-letter g l = record {
  ready : CanMakeSteps g.D.Disk.seen l.self;
  posted : WerePosted (view_of g.D.Disk.seen g.D.Disk.faults g.D.Disk.clock) l.initial.self l.self;
  settled : AreSettled g.D.Disk.settled (state_of l.initial.self) → AreSettled g.D.Disk.settled (state_of l.self);
}

abbrev pub decreases-loop-letter : goal.decreases-loop-letter
decreases-loop-letter g l = distance_of (first_number l.self.flying.flights)
