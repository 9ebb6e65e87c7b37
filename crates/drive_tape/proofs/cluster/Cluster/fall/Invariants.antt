use Rattle.std.proofs.Common.{◌≡◌, ◌≤◌, ℕ, length}
use Rattle.mail_model.specs.Plan.{Plan}
use Rattle.node_store.specs.Disks.{view_of}
use Rattle.cluster_world.specs.declared.world.World.{World}
use Rattle.drive_tape.specs.Moving.{left_at, AreEven}
use Rattle.drive_tape.specs.Points.{Point, Work}
use Rattle.drive_tape.specs.Clusters.{IsFalling}
use Rattle.drive_tape.proofs.cluster.Cluster.fall.Given as goal

-- the sessions of the node before this place have fallen
abbrev pub invariant-loop-place : goal.invariant-loop-place
invariant-loop-place g l = record {
  fell : (start : World g.row.D.Denot) (plan : Plan) (p : Point) (onward : ℕ) → IsFalling (view_of g.D.Disk.seen g.D.Disk.faults g.D.Disk.clock) start plan p 0 l.fn.node onward l.fn.self → p.held ≡ g.K.Sink.contents l.fn.sink
      → (q : Point) × Work plan p q × (q.held ≡ g.K.Sink.contents l.sink) × IsFalling (view_of g.D.Disk.seen g.D.Disk.faults g.D.Disk.clock) start plan q l.place l.fn.node onward l.self;
  world : l.self.world ≡ l.fn.self.world;
  places : length l.self.sessions.talkers.items ≡ length l.fn.self.sessions.talkers.items;
  even : AreEven l.self.sessions;
  left : (place : ℕ) → left_at place l.self.sessions ≤ left_at place l.fn.self.sessions;
  later : g.K.Sink.faults l.fn.sink ≤ g.K.Sink.faults l.sink;
}
