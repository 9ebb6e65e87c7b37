use Rattle.std.proofs.Common.{◌≡◌, [], length, arith, ap, refl}
use Rattle.node_store.specs.Disks.{view_of}
use Rattle.node_reads.specs.Readings.{listed}
use Rattle.cluster_world.proofs.Queues.{queue_looked, queue_smaller, empty_looked}
use Rattle.cluster_world.proofs.queue.put_next.Goals as goal

pub loop-next-smaller : goal.loop-next-smaller
loop-next-smaller g c =
    queue_smaller (view_of g.D.Disk.seen g.D.Disk.faults g.D.Disk.clock) _ [] _ _ _ _ _ _ _ _ _ _ (ap listed c.in-Some.is) refl c.loop-next.invariant.looked c.look_at-next.ensures.looks

pub loop-next-preserved : goal.loop-next-preserved
loop-next-preserved g c =
    let one : length (listed c.loop-next.next) ≡ 1 = ap (λ o. length (listed o)) c.in-Some.is in
    record {
      works = c.look_at-next.ensures.looks.beside.works c.loop-next.invariant.works;
      counted = c.look_at-next.ensures.counted;
      numbers = omega (arith, one, c.loop-next.invariant.numbers, c.look_at-next.ensures.number);
      room = omega (arith, one, c.loop-next.invariant.room, c.look_at-next.ensures.len, c.look_at-next.ensures.capacity);
      heard = c.look_at-next.ensures.heard;
      looked = queue_looked (view_of g.D.Disk.seen g.D.Disk.faults g.D.Disk.clock) _ [] _ _ _ _ _ _ _ _ _ _ (ap listed c.in-Some.is) refl c.loop-next.invariant.looked c.look_at-next.ensures.looks;
    }

pub returns-clause-puts : goal.returns-clause-puts
returns-clause-puts g c = empty_looked (view_of g.D.Disk.seen g.D.Disk.faults g.D.Disk.clock) _ _ _ _ _ _ (ap listed c.in_default.is) c.loop-next.invariant.looked
