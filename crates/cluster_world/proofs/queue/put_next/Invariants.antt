use Rattle.std.proofs.Common.{◌+◌, ◌≤◌, ◌<◌, ◌^◌, length}
use Rattle.std.specs.VecDeque.{deque_len, deque_capacity}
use Rattle.node_store.specs.Disks.{view_of}
use Rattle.node_reads.specs.Readings.{listed}
use Rattle.cluster_world.specs.Flights.{FlightIsCounted}
use Rattle.cluster_world.specs.Hears.{AllCanBeHeard}
use Rattle.cluster_world.specs.Lives.{CanWorkOn}
use Rattle.cluster_world.specs.Reading.{flying_of, ticket_among, chances_for}
use Rattle.cluster_world.proofs.Queues.{WereLooked}
use Rattle.cluster_world.proofs.queue.put_next.Given as goal

-- what is left is the last letter that a mishap has sent
abbrev pub invariant-loop-next : goal.invariant-loop-next
invariant-loop-next g l = record {
  works : CanWorkOn g.D.Disk.seen l.nodes.plan l.nodes.lives.items l.nodes.disks.items;
  counted : FlightIsCounted l.roomy.octets l.roomy.sent l.roomy.flights.items;
  numbers : l.roomy.sent + length (listed l.next) < 2 ^ 64;
  room : deque_len l.roomy.flights + length (listed l.next) ≤ deque_capacity l.roomy.flights;
  heard : AllCanBeHeard (listed l.next);
  looked : WereLooked (view_of g.D.Disk.seen g.D.Disk.faults g.D.Disk.clock) (listed l.initial.next) (listed l.next) l.initial.nodes (flying_of l.initial.roomy) l.nodes (flying_of l.roomy);
}

abbrev pub decreases-loop-next : goal.decreases-loop-next
decreases-loop-next g l = length (listed l.next) + chances_for l.nodes.lives.items (ticket_among (listed l.initial.next))
