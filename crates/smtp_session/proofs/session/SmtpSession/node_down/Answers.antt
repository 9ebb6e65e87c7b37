use Rattle.smtp_session.proofs.Moving.{falls}
use Rattle.smtp_session.proofs.session.SmtpSession.node_down.Goals as goal

pub returns-clause-ok : goal.returns-clause-ok
returns-clause-ok c =
    let old = c.args.self.now in
    (_, c.in_ok-line_into.ensures.ok, λ plain due follows on. falls old.node old.told old.cutter old.undotter old.text old.turn plain due follows on)
