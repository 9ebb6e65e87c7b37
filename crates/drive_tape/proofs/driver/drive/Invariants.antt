use Rattle.std.proofs.Common.{◌≡◌, ◌+◌, ◌≤◌, ◌^◌}
use Rattle.node_store.specs.Disks.{view_of}
use Rattle.cluster_world.specs.Worlds.{plan_of}
use Rattle.cluster_world.specs.Opens.{IsAtBeginning}
use Rattle.drive_tape.specs.Moving.{AreEven}
use Rattle.drive_tape.specs.Runs.{Progress}
use Rattle.drive_tape.specs.Worlds.{WorldIsReady}
use Rattle.drive_tape.proofs.driver.drive.Given as goal

-- so many lines were handled
abbrev pub invariant-loop-handled : goal.invariant-loop-handled
invariant-loop-handled g l = record {
  ready : WorldIsReady g.D.Disk.seen g.D.Disk.settled l.cluster.world;
  plan : plan_of l.cluster.world ≡ plan_of l.fn.world;
  even : AreEven l.cluster.sessions;
  progress : IsAtBeginning (view_of g.D.Disk.seen g.D.Disk.faults g.D.Disk.clock) (plan_of l.fn.world) l.fn.world
      → Progress (view_of g.D.Disk.seen g.D.Disk.faults g.D.Disk.clock) l.fn.world (g.S.Source.left l.fn.source) (g.S.Source.left l.source) (g.K.Sink.contents l.fn.sink) (g.K.Sink.contents l.sink) l.cluster l.handled l.room;
  unread : l.handled + l.room ≤ 2 ^ 40;
  read_later : g.S.Source.faults l.fn.source ≤ g.S.Source.faults l.source;
  write_later : g.K.Sink.faults l.fn.sink ≤ g.K.Sink.faults l.sink;
}

abbrev pub decreases-loop-handled : goal.decreases-loop-handled
decreases-loop-handled g l = l.room
