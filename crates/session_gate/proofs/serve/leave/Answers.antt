use Rattle.std.proofs.Common.{sym, ◌∙◌}
use Rattle.session_model.specs.Sessions.{exchanges_of}
use Rattle.call_tickets.specs.Moves.Due.{Nothing}
use Rattle.pop_session.specs.Shown.{login_in}
use Rattle.session_gate.proofs.Leaving.{nobody_leaves, lets_leave}
use Rattle.session_gate.proofs.serve.leave.Goals as goal

pub returns-in_default-clause-left : goal.returns-in_default-clause-left
returns-in_default-clause-left g c plain up =
    nobody_leaves (login_in c.args.session.stage) (exchanges_of plain) plain.standing c.args.served _ (sym c.in_default.is ∙ c.leave.ensures.leaves) (c.leave.ensures.user plain Nothing up.0)

pub returns-clause-left : goal.returns-clause-left
returns-clause-left g c plain up =
    lets_leave (login_in c.args.session.stage) c.in-Some.call (exchanges_of plain) plain.standing _ _ _ (sym c.in-Some.is ∙ c.leave.ensures.leaves)
    (c.leave.ensures.user plain Nothing up.0) up.1 c.begin_leave.ensures.left
