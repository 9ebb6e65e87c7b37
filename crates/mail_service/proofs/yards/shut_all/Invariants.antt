use Rattle.std.proofs.Common.{◌≡◌, ◌++◌, length, map}
use Rattle.std.specs.Vec.Iter.{into_iter_items, into_iter_len}
use Rattle.yard_stores.specs.Taken.{TellsAll}
use Rattle.mail_service.specs.Entrances.{marked}
use Rattle.mail_service.proofs.yards.shut_all.Given as goal

-- those so far were given back
abbrev pub invariant-loop-entrance : goal.invariant-loop-entrance
invariant-loop-entrance g l = record {
  all : l.yielded ++ into_iter_items l.entrance-iterator ≡ into_iter_items l.initial.entrance-iterator;
  rest : into_iter_len l.entrance-iterator ≡ length (into_iter_items l.entrance-iterator);
  closed : TellsAll (g.Y.Yard.closed l.fn.yard) (g.Y.Yard.closed l.yard) (map marked l.yielded);
  opened : g.Y.Yard.opened l.yard ≡ g.Y.Yard.opened l.fn.yard;
  handed : g.Y.Yard.handed l.yard ≡ g.Y.Yard.handed l.fn.yard;
  returned : g.Y.Yard.returned l.yard ≡ g.Y.Yard.returned l.fn.yard;
  faults : g.Y.Yard.faults l.yard ≡ g.Y.Yard.faults l.fn.yard;
  unread : g.Y.Yard.unread l.yard ≡ g.Y.Yard.unread l.fn.yard;
  unopened : g.Y.Yard.unopened l.yard ≡ g.Y.Yard.unopened l.fn.yard;
}
