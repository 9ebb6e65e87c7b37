use Rattle.std.proofs.Common.{sym, subst}
use Rattle.mail_model.specs.Lines.{HasNoCrlf}
use Rattle.mail_model.specs.PopReplies.{ready_text}
use Rattle.session_model.specs.Acts.{opened_session, greeting_of}
use Rattle.call_tickets.specs.Moves.Due.{Nothing}
use Rattle.tape_lines.specs.declared.protocol.Protocol.{Protocol}
use Rattle.tape_lines.specs.Orders.{protocol_seen}
use Rattle.pop_session.specs.Follows as reader
use Rattle.drive_tape.proofs.Talkers.{mail_greets, reader_greets}
use Rattle.drive_tape.proofs.talker.Talker.open.Goals as goal

pub returns-in_ok-next-in-Smtp-clause-line : goal.returns-in_ok-next-in-Smtp-clause-line
returns-in_ok-next-in-Smtp-clause-line c =
    let moved = c.in_ok-next-in-Smtp.ensures.ok in
    let At : Protocol → Type 0 = λ p. HasNoCrlf (greeting_of (protocol_seen p) c.args.node c.args.boot c.args.number c.args.seconds) in
    subst At (sym c.in-Smtp.is)
    (mail_greets c.args.plan.now c.args.node c.new-session.result c.next.new.self c.in_ok-next-in-Smtp.field-0 moved.0 c.new-session.ensures moved.2).line

pub returns-in_ok-next-in-Pop-clause-line : goal.returns-in_ok-next-in-Pop-clause-line
returns-in_ok-next-in-Pop-clause-line c =
    let moved = c.in_ok-next-in-Pop.ensures.ok in
    let opened = c.new-session-in-Pop.ensures in
    let At : Protocol → Type 0 = λ p. HasNoCrlf (greeting_of (protocol_seen p) c.args.node c.args.boot c.args.number c.args.seconds) in
    subst At (sym c.in-Pop.is)
    (reader_greets c.args.plan.now c.args.node (ready_text c.args.node c.args.boot c.args.number c.args.seconds) c.new-session-in-Pop.result c.next-in-Pop.new.self c.in_ok-next-in-Pop.field-0 moved.0
    opened.follows opened.greets moved.2).line

pub returns-in_ok-next-in-Pop-clause-opened : goal.returns-in_ok-next-in-Pop-clause-opened
returns-in_ok-next-in-Pop-clause-opened c =
    let moved = c.in_ok-next-in-Pop.ensures.ok in
    let opened = c.new-session-in-Pop.ensures in
    let At : Protocol → Type 0 = λ p. reader.Follows c.next-in-Pop.new.self (opened_session (protocol_seen p) c.args.node) Nothing in
    subst At (sym c.in-Pop.is)
    (reader_greets c.args.plan.now c.args.node (ready_text c.args.node c.args.boot c.args.number c.args.seconds) c.new-session-in-Pop.result c.next-in-Pop.new.self c.in_ok-next-in-Pop.field-0 moved.0
    opened.follows opened.greets moved.2).goes_on
