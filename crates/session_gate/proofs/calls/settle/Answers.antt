use Rattle.call_tickets.specs.Passes.{known_to}
use Rattle.session_gate.proofs.Deals.{awaited_settled, refused_dealt}
use Rattle.session_gate.proofs.calls.settle.Goals as goal

pub returns-in-Ok-clause-settled : goal.returns-in-Ok-clause-settled
returns-in-Ok-clause-settled g c asked is =
    awaited_settled asked c.in-Ok.ticket (known_to (g.E.Desk.own c.args.pass.now) (g.E.Desk.counts c.args.pass.now)) (known_to (g.E.Desk.own c.begin.new.pass) (g.E.Desk.counts c.begin.new.pass))
    (known_to (g.E.Desk.own c.await_answer.new.pass) (g.E.Desk.counts c.await_answer.new.pass)) (c.in-Ok.ensures.began asked is) c.await_answer.result c.await_answer.ensures.came

pub returns-in-Err-Down-clause-settled : goal.returns-in-Err-Down-clause-settled
returns-in-Err-Down-clause-settled g c asked is =
    let so = rw c.in-Err-Down.field-0-is at c.in-Err-Down.ensures.began asked is in
    (refused_dealt asked _ _ so.0, so.1)

pub returns-in-Err-NoMemory-clause-settled : goal.returns-in-Err-NoMemory-clause-settled
returns-in-Err-NoMemory-clause-settled g c asked is =
    let so = rw c.in-Err-NoMemory.field-0-is at c.in-Err-NoMemory.ensures.began asked is in
    refused_dealt asked _ _ so.0
