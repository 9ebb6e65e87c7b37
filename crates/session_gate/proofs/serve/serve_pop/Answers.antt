use Rattle.std.proofs.Common.{inr, refl}
use Rattle.call_tickets.specs.Passes.{known_to}
use Rattle.pop_session.specs.Follows as reader
use Rattle.session_gate.specs.Connections.{pop_connection}
use Rattle.session_gate.proofs.Opening.{pop_opens}
use Rattle.session_gate.proofs.Ending.{ends_pop}
use Rattle.session_gate.proofs.serve.serve_pop.Goals as goal

pub returns-clause-serves : goal.returns-clause-serves
returns-clause-serves g c =
    let mid = known_to (g.E.Desk.own c.is_up.new.pass) (g.E.Desk.counts c.is_up.new.pass) in
    let ok = c.in-Ok.ensures.ok in
    let so = c.converse-close.ensures.serves (pop_connection c.args.plan.now c.args.node c.in-Some.field-0.boot c.args.number c.in-Some.field-0.seconds mid) refl
    (pop_opens c.args.plan.now c.args.node c.in-Some.field-0.boot c.args.number c.in-Some.field-0.seconds mid c.new-session.result c.next.new.self _ _ ok.0 c.new-session.ensures.follows c.new-session.ensures.greets
    (rw c.new-out.ensures.items at ok.1) ok.2) in
    inr (inr (
      mid,
      c.is_up.ensures.quiet,
      ends_pop c.args.plan.now c.args.node c.in-Some.field-0.boot c.args.number c.in-Some.field-0.seconds mid _ _ _ _ _ c.converse-close.result
          (reader.Follows c.converse-close.new.talker) c.end_pop.result _ so c.end_pop.ensures.left c.end_pop.ensures.served,
    ))
