use Rattle.std.proofs.Common.{◌≡◌, ◌+◌, ◌≤◌, ◌<◌, ◌++◌, ◌^◌, length}
use Rattle.std.specs.Vec.Iter.{into_iter_items, into_iter_len}
use Rattle.std.specs.Prelude.{vec_len, vec_capacity}
use Rattle.std.specs.VecDeque.{deque_len, deque_capacity}
use Rattle.cluster_world.specs.Hears.{AllCanBeHeard}
use Rattle.cluster_world.specs.Flights.{FlightIsCounted, put_all}
use Rattle.cluster_world.proofs.flying.put_all.Given as goal

-- the letters so far are in flight or left, and there is room for the others
abbrev pub invariant-loop-letter : goal.invariant-loop-letter
invariant-loop-letter l = record {
  all : l.yielded ++ into_iter_items l.letter-iterator ≡ into_iter_items l.initial.letter-iterator;
  rest : into_iter_len l.letter-iterator ≡ length (into_iter_items l.letter-iterator);
  counted : FlightIsCounted l.octets l.sent l.flights.items;
  numbers : l.sent + length (into_iter_items l.letter-iterator) < 2 ^ 64;
  room : deque_len l.flights + length (into_iter_items l.letter-iterator) ≤ deque_capacity l.flights;
  spare : vec_len l.left + length (into_iter_items l.letter-iterator) ≤ vec_capacity l.left;
  heard : AllCanBeHeard (into_iter_items l.letter-iterator);
  put : (record { flying = record { flights = l.flights.items; sent = l.sent }; left = l.left.items })
      ≡ put_all l.yielded (record { flying = record { flights = l.initial.flights.items; sent = l.initial.sent }; left = l.initial.left.items });
}
