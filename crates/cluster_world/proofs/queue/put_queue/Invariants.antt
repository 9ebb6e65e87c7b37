use Rattle.std.proofs.Common.{◌+◌, ◌≤◌, ◌<◌, ◌^◌, length}
use Rattle.std.specs.VecDeque.{deque_len, deque_capacity}
use Rattle.node_store.specs.Disks.{view_of}
use Rattle.cluster_world.specs.Flights.{FlightIsCounted}
use Rattle.cluster_world.specs.Hears.{AllCanBeHeard}
use Rattle.cluster_world.specs.Lives.{CanWorkOn}
use Rattle.cluster_world.specs.Reading.{flying_of, ticket_among, chances_for}
use Rattle.cluster_world.proofs.Queues.{WereLooked}
use Rattle.cluster_world.proofs.queue.put_queue.Given as goal

-- the letters that are left, and those that mishaps have sent, are in the queue
abbrev pub invariant-loop-letter : goal.invariant-loop-letter
invariant-loop-letter g l = record {
  works : CanWorkOn g.D.Disk.seen l.nodes.plan l.nodes.lives.items l.nodes.disks.items;
  counted : FlightIsCounted l.roomy.octets l.roomy.sent l.roomy.flights.items;
  spare : deque_len l.queue ≤ deque_capacity l.queue;
  numbers : l.roomy.sent + deque_len l.queue < 2 ^ 64;
  room : deque_len l.roomy.flights + deque_len l.queue ≤ deque_capacity l.roomy.flights;
  heard : AllCanBeHeard l.queue.items;
  looked : WereLooked (view_of g.D.Disk.seen g.D.Disk.faults g.D.Disk.clock) l.initial.queue.items l.queue.items l.initial.nodes (flying_of l.initial.roomy) l.nodes (flying_of l.roomy);
}

abbrev pub decreases-loop-letter : goal.decreases-loop-letter
decreases-loop-letter g l = length l.queue.items + chances_for l.nodes.lives.items (ticket_among l.initial.queue.items)
