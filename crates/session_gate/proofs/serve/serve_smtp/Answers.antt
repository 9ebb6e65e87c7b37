use Rattle.std.proofs.Common.{inr, refl}
use Rattle.call_tickets.specs.Passes.{known_to}
use Rattle.session_gate.proofs.Opening.{smtp_opens, closed_served}
use Rattle.session_gate.specs.Connections.{smtp_connection}
use Rattle.session_gate.proofs.serve.serve_smtp.Goals as goal

pub returns-clause-serves : goal.returns-clause-serves
returns-clause-serves g c =
    let mid = known_to (g.E.Desk.own c.is_up.new.pass) (g.E.Desk.counts c.is_up.new.pass) in
    let ok = c.in-Ok.ensures.ok in
    inr (inr (
      mid,
      c.is_up.ensures.quiet,
      closed_served c.converse-close.result (smtp_connection c.args.plan.now c.args.node mid) _ _ _ _ _ _ _ c.served.ensures
          (c.converse-close.ensures.serves (smtp_connection c.args.plan.now c.args.node mid) refl
          (smtp_opens c.args.plan.now c.args.node mid c.new-session.result c.next.new.self _ _ ok.0 c.new-session.ensures (rw c.new-out.ensures.items at ok.1) ok.2)),
    ))
