use Rattle.std.proofs.Common.{◌≡◌, ◌≤◌, length}
use Rattle.node_store.specs.Disks.{view_of}
use Rattle.cluster_world.specs.Worlds.{plan_of}
use Rattle.cluster_world.specs.declared.world.World.{World}
use Rattle.drive_tape.specs.Moving.{work_at, AreEven}
use Rattle.drive_tape.specs.Worlds.{WorldIsReady}
use Rattle.drive_tape.specs.Points.{Point, IsAtPoint, WentOn}
use Rattle.drive_tape.specs.Clusters.{AsksFrom}
use Rattle.drive_tape.proofs.cluster.Cluster.ask_at.Given as goal

-- it was asked for as long as it was answered, so far
abbrev pub invariant-loop-open_call : goal.invariant-loop-open_call
invariant-loop-open_call g l = record {
  asked : (start : World g.row.D.Denot) (p : Point) → IsAtPoint (view_of g.D.Disk.seen g.D.Disk.faults g.D.Disk.clock) start (plan_of l.fn.self.world) l.fn.self p → p.held ≡ g.K.Sink.contents l.fn.sink → AsksFrom l.fn.place p
      → WentOn (view_of g.D.Disk.seen g.D.Disk.faults g.D.Disk.clock) start (plan_of l.fn.self.world) p (AsksFrom l.fn.place) (g.K.Sink.contents l.sink) l.self;
  ready : WorldIsReady g.D.Disk.seen g.D.Disk.settled l.self.world;
  plan : plan_of l.self.world ≡ plan_of l.fn.self.world;
  places : length l.self.sessions.talkers.items ≡ length l.fn.self.sessions.talkers.items;
  even : AreEven l.self.sessions;
  later : g.K.Sink.faults l.fn.sink ≤ g.K.Sink.faults l.sink;
}

abbrev pub decreases-loop-open_call : goal.decreases-loop-open_call
decreases-loop-open_call g l = work_at l.fn.place l.self.sessions
