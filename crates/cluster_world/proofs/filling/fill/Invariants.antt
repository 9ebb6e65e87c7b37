use Rattle.std.proofs.Common.{◌≡◌, ◌+◌, ◌≤◌, ◌++◌, length}
use Rattle.std.specs.Vec.Iter.{into_iter_items, into_iter_len}
use Rattle.std.specs.VecDeque.{deque_len, deque_capacity}
use Rattle.cluster_world.proofs.filling.fill.Given as goal

-- the letters so far are in the queue, and there is room for the others
abbrev pub invariant-loop-letter : goal.invariant-loop-letter
invariant-loop-letter l = record {
  all : l.yielded ++ into_iter_items l.letter-iterator ≡ into_iter_items l.initial.letter-iterator;
  rest : into_iter_len l.letter-iterator ≡ length (into_iter_items l.letter-iterator);
  items : l.queue.items ≡ l.initial.queue.items ++ l.yielded;
  len : deque_len l.queue ≡ deque_len l.initial.queue + length l.yielded;
  room : deque_len l.queue + length (into_iter_items l.letter-iterator) ≤ deque_capacity l.queue;
  same : deque_capacity l.queue ≡ deque_capacity l.initial.queue;
}
