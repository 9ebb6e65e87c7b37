use Rattle.std.proofs.Common.{◌≡◌, true}
use Rattle.node_store.specs.Disks.{view_of}
use Rattle.cluster_world.specs.Lives.{is_up_life}
use Rattle.cluster_world.specs.Worlds.{plan_of, life_of}
use Rattle.drive_tape.specs.Worlds.{WorldIsReady}
use Rattle.drive_tape.proofs.Posting.{HasPushed}
use Rattle.drive_tape.proofs.moved.push.Given as goal

-- the nodes so far were pushed to, and none failed
abbrev pub invariant-loop-done : goal.invariant-loop-done
invariant-loop-done g l = record {
  ready : WorldIsReady g.D.Disk.seen g.D.Disk.settled l.world;
  plan : plan_of l.world ≡ plan_of l.fn.world;
  pushed : HasPushed (view_of g.D.Disk.seen g.D.Disk.faults g.D.Disk.clock) l.fn.world l.fn.from l.done l.sent l.world;
  up : is_up_life (life_of l.fn.world l.fn.from) ≡ true;
}
