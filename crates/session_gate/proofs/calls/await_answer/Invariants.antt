use Rattle.call_tickets.specs.Passes.{known_to, IsQuiet}
use Rattle.session_gate.proofs.calls.await_answer.Given as goal

-- nothing has come of it yet
abbrev pub invariant-loop : goal.invariant-loop
invariant-loop g l = record {
  next : (goal.iterator-loop g).can_next l.iterator';
  finite : (goal.iterator-loop g).is_finite l.iterator';
  belongs : g.E.Desk.belongs l.fn.desk l.pass;
  quiet : IsQuiet (known_to (g.E.Desk.own l.fn.pass) (g.E.Desk.counts l.fn.pass)) (known_to (g.E.Desk.own l.pass) (g.E.Desk.counts l.pass));
}
