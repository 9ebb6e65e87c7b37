use Rattle.std.proofs.Common.{◌≡◌}
use Rattle.mail_service.proofs.workers.carry_all.Given as goal

-- the pass belongs, and has its quota
abbrev pub invariant-loop : goal.invariant-loop
invariant-loop g l = record {
  next : (goal.iterator-loop g).can_next l.iterator';
  finite : (goal.iterator-loop g).is_finite l.iterator';
  belongs : g.B.Backend.belongs l.fn.backend l.pass;
  quota : g.B.Backend.quota l.pass ≡ g.B.Backend.quota l.fn.pass;
}
