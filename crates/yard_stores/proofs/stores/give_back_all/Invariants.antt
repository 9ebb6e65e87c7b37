use Rattle.std.proofs.Common.{◌≡◌, ◌+◌, ◌++◌, length}
use Rattle.std.specs.Vec.Iter.{into_iter_items, into_iter_len}
use Rattle.yard_stores.specs.Taken.{TellsAll, numbered_stores}
use Rattle.yard_stores.proofs.stores.give_back_all.Given as goal

-- those so far were given back
abbrev pub invariant-loop-disk : goal.invariant-loop-disk
invariant-loop-disk g l = record {
  all : l.yielded ++ into_iter_items l.disk-iterator ≡ into_iter_items l.initial.disk-iterator;
  rest : into_iter_len l.disk-iterator ≡ length (into_iter_items l.disk-iterator);
  count : length l.yielded + 1 ≡ l.node;
  returned : TellsAll (g.Y.Yard.returned l.fn.yard) (g.Y.Yard.returned l.yard) (numbered_stores 1 l.yielded);
  handed : g.Y.Yard.handed l.yard ≡ g.Y.Yard.handed l.fn.yard;
  faults : g.Y.Yard.faults l.yard ≡ g.Y.Yard.faults l.fn.yard;
  opened : g.Y.Yard.opened l.yard ≡ g.Y.Yard.opened l.fn.yard;
  closed : g.Y.Yard.closed l.yard ≡ g.Y.Yard.closed l.fn.yard;
  unread : g.Y.Yard.unread l.yard ≡ g.Y.Yard.unread l.fn.yard;
  unopened : g.Y.Yard.unopened l.yard ≡ g.Y.Yard.unopened l.fn.yard;
}
