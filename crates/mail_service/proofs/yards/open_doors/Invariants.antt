use Rattle.std.proofs.Common.{◌≡◌, ◌≤◌, length, map, take}
use Rattle.std.specs.Prelude.{vec_capacity}
use Rattle.yard_stores.specs.Taken.{with_all}
use Rattle.mail_service.specs.Entrances.{marked}
use Rattle.mail_service.specs.Services.{place_of, place_at}
use Rattle.mail_service.proofs.yards.open_doors.Given as goal

-- those so far were taken
abbrev pub invariant-loop-port : goal.invariant-loop-port
invariant-loop-port g l = record {
  count : length l.entrances.items ≡ l.port-index;
  each : map place_of l.entrances.items ≡ map place_at (take l.port-index l.fn.ports);
  capacity : vec_capacity l.entrances ≡ vec_capacity l.fn.entrances;
  opened : g.Y.Yard.opened l.yard ≡ with_all (g.Y.Yard.opened l.fn.yard) (map marked l.entrances.items);
  closed : g.Y.Yard.closed l.yard ≡ g.Y.Yard.closed l.fn.yard;
  handed : g.Y.Yard.handed l.yard ≡ g.Y.Yard.handed l.fn.yard;
  returned : g.Y.Yard.returned l.yard ≡ g.Y.Yard.returned l.fn.yard;
  faults : g.Y.Yard.faults l.yard ≡ g.Y.Yard.faults l.fn.yard;
  unread : g.Y.Yard.unread l.yard ≡ g.Y.Yard.unread l.fn.yard;
  later : g.Y.Yard.unopened l.fn.yard ≤ g.Y.Yard.unopened l.yard;
}
