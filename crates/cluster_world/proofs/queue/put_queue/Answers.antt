use Rattle.std.proofs.Common.{arith, sym}
use Rattle.node_store.specs.Disks.{view_of}
use Rattle.cluster_world.proofs.Queues.{queue_looked, queue_smaller, queue_heard, empty_looked, nothing_of}
use Rattle.cluster_world.proofs.queue.put_queue.Goals as goal

pub loop-letter-smaller : goal.loop-letter-smaller
loop-letter-smaller g c =
    queue_smaller (view_of g.D.Disk.seen g.D.Disk.faults g.D.Disk.clock) _ _ _ _ _ _ _ _ _ _ _ _ c.in-Some.ensures.items c.append.ensures.items c.loop-letter.invariant.looked c.look_at-next.ensures.looks

pub loop-letter-preserved : goal.loop-letter-preserved
loop-letter-preserved g c = record {
  works = c.look_at-next.ensures.looks.beside.works c.loop-letter.invariant.works;
  counted = c.look_at-next.ensures.counted;
  spare = omega (arith, c.append.ensures.len, c.append.ensures.capacity, c.in-Some.ensures.cases, c.in-Some.ensures.capacity, c.loop-letter.invariant.spare, c.look_at-next.ensures.number);
  numbers = omega (arith, c.append.ensures.len, c.in-Some.ensures.cases, c.loop-letter.invariant.numbers, c.look_at-next.ensures.number);
  room = omega (arith, c.append.ensures.len, c.in-Some.ensures.cases, c.loop-letter.invariant.room, c.look_at-next.ensures.len, c.look_at-next.ensures.capacity);
  heard = queue_heard _ _ _ _ _ c.in-Some.ensures.items c.append.ensures.items c.loop-letter.invariant.heard c.look_at-next.ensures.heard;
  looked = queue_looked (view_of g.D.Disk.seen g.D.Disk.faults g.D.Disk.clock) _ _ _ _ _ _ _ _ _ _ _ _ c.in-Some.ensures.items c.append.ensures.items c.loop-letter.invariant.looked c.look_at-next.ensures.looks;
}

pub returns-clause-puts : goal.returns-clause-puts
returns-clause-puts g c = empty_looked (view_of g.D.Disk.seen g.D.Disk.faults g.D.Disk.clock) _ _ _ _ _ _ (nothing_of _ _ (sym c.loop-letter.queue.ok.0) c.in_default.ensures.cases.0) c.loop-letter.invariant.looked
