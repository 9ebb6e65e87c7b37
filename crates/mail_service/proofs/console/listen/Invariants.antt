use Rattle.std.proofs.Common.{◌≡◌, ◌≤◌}
use Rattle.mail_service.proofs.Listening.{HasRead}
use Rattle.mail_service.proofs.console.listen.Given as goal

-- the pass belongs and has its quota, the counts have not fallen, and none of the lines so far ends the console
abbrev pub invariant-loop : goal.invariant-loop
invariant-loop g l = record {
  next : (goal.iterator-loop g).can_next l.iterator';
  finite : (goal.iterator-loop g).is_finite l.iterator';
  belongs : g.B.Backend.belongs l.fn.backend l.pass;
  quota : g.B.Backend.quota l.pass ≡ g.B.Backend.quota l.fn.pass;
  read_later : g.S.Source.faults l.fn.source ≤ g.S.Source.faults l.source;
  read : HasRead (g.S.Source.left l.fn.source) (g.S.Source.left l.source) l.number;
  write_later : g.K.Sink.faults l.fn.sink ≤ g.K.Sink.faults l.sink;
}
