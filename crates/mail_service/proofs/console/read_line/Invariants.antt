use Rattle.std.proofs.Common.{◌≤◌}
use Rattle.mail_service.proofs.Listening.{IsUnderway}
use Rattle.mail_service.proofs.console.read_line.Given as goal

-- the count has not fallen, and no octet so far is an LF
abbrev pub invariant-loop : goal.invariant-loop
invariant-loop g l = record {
  next : (goal.iterator-loop g).can_next l.iterator';
  finite : (goal.iterator-loop g).is_finite l.iterator';
  underway : IsUnderway (g.S.Source.left l.fn.source) (g.S.Source.left l.source) l.long l.line.items;
  later : g.S.Source.faults l.fn.source ≤ g.S.Source.faults l.source;
}
