use Rattle.std.proofs.Common.{refl}
use Rattle.mail_model.specs.Session.{is_quit}
use Rattle.mail_model.specs.Smtp.{command_of}
use Rattle.smtp_session.proofs.Closes.{closes}
use Rattle.smtp_session.proofs.told.Told.hear.Goals as goal

pub returns-clause-ok : goal.returns-clause-ok
returns-clause-ok c short =
    let exact = c.read_command-command.ensures.exact in
    rw (c.heard_of.ensures.heard, exact)
    (closes c.args.plan.now _ _ c.args.line.now c.in_ok-reply.reply (is_quit (command_of c.args.line.now)) refl short (rw exact at c.in_ok-reply.ensures.ok))
