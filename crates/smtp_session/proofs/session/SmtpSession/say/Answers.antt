use Rattle.mail_model.specs.Lines.{sent_line}
use Rattle.smtp_session.specs.Replies.{text_of}
use Rattle.smtp_session.proofs.Moving.{moved_due}
use Rattle.smtp_session.proofs.session.SmtpSession.say.Goals as goal

pub returns-clause-ok : goal.returns-clause-ok
returns-clause-ok c =
    let old = c.args.self.now in (
      sent_line (text_of c.args.reply old.node),
      c.in_ok-line_into.ensures.ok,
      λ plan. moved_due plan old.node old.told old.cutter old.undotter old.text old.turn c.args.reply c.requires,
    )
