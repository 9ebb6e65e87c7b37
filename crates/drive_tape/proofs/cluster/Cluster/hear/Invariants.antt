use Rattle.std.proofs.Common.{◌≡◌, ◌≤◌, ℕ, length}
use Rattle.node_store.specs.Disks.{view_of}
use Rattle.cluster_world.specs.Worlds.{plan_of}
use Rattle.cluster_world.specs.declared.world.World.{World}
use Rattle.drive_tape.specs.Moving.{work_at, AreEven}
use Rattle.drive_tape.specs.Points.{Point, IsAtPoint, WentOn}
use Rattle.drive_tape.specs.Worlds.{WorldIsReady}
use Rattle.drive_tape.specs.Clusters.{SessionHears}
use Rattle.drive_tape.proofs.cluster.Cluster.hear.Given as goal

-- the session has moved, and hears on
abbrev pub invariant-loop : goal.invariant-loop
invariant-loop g l = record {
  heard : (start : World g.row.D.Denot) (p : Point) (onward : ℕ) → IsAtPoint (view_of g.D.Disk.seen g.D.Disk.faults g.D.Disk.clock) start (plan_of l.fn.self.world) l.fn.self p → p.held ≡ g.K.Sink.contents l.fn.sink → SessionHears l.fn.place onward p
      → WentOn (view_of g.D.Disk.seen g.D.Disk.faults g.D.Disk.clock) start (plan_of l.fn.self.world) p (SessionHears l.fn.place onward) (g.K.Sink.contents l.sink) l.self;
  ready : WorldIsReady g.D.Disk.seen g.D.Disk.settled l.self.world;
  plan : plan_of l.self.world ≡ plan_of l.fn.self.world;
  places : length l.self.sessions.talkers.items ≡ length l.fn.self.sessions.talkers.items;
  even : AreEven l.self.sessions;
  later : g.K.Sink.faults l.fn.sink ≤ g.K.Sink.faults l.sink;
  work : work_at l.fn.place l.self.sessions ≤ work_at l.fn.place l.fn.self.sessions;
}

-- it has less to do with each move
abbrev pub decreases-loop : goal.decreases-loop
decreases-loop g l = work_at l.fn.place l.self.sessions
