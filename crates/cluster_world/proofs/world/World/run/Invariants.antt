use Rattle.std.proofs.Common.{◌≡◌, ◌+◌, ◌≤◌, ◌++◌, length}
use Rattle.std.specs.Vec.Iter.{into_iter_items, into_iter_len}
use Rattle.std.specs.Prelude.{vec_len, vec_capacity}
use Rattle.node_store.specs.Disks.{view_of}
use Rattle.cluster_world.specs.Worlds.{state_of, CanMakeSteps}
use Rattle.cluster_world.specs.Steps.{AreSettled}
use Rattle.cluster_world.specs.Runs.{MadeThese}
use Rattle.cluster_world.proofs.world.World.run.Given as goal

-- the steps so far were made, and there is room for what the others say
abbrev pub invariant-loop-step : goal.invariant-loop-step
invariant-loop-step g l = record {
  all : l.yielded ++ into_iter_items l.step-iterator ≡ into_iter_items l.initial.step-iterator;
  rest : into_iter_len l.step-iterator ≡ length (into_iter_items l.step-iterator);
  spare : vec_len l.said + length (into_iter_items l.step-iterator) ≤ vec_capacity l.said;
  ready : CanMakeSteps g.D.Disk.seen l.self;
  made : MadeThese (view_of g.D.Disk.seen g.D.Disk.faults g.D.Disk.clock) l.yielded l.said.items l.initial.self l.self;
  settled : AreSettled g.D.Disk.settled (state_of l.initial.self) → AreSettled g.D.Disk.settled (state_of l.self);
}
