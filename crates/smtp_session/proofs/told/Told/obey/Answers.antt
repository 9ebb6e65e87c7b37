use Rattle.std.proofs.Common.{◌≡◌, Ok, Option, rules}
use Rattle.mail_model.specs.Session.{Told, Envelope}
use Rattle.smtp_session.specs.Talks.{talk_of}
use Rattle.smtp_session.proofs.Choices.{cond_under}
use Rattle.mail_model.specs.Smtp as smtp
use Rattle.smtp_wire.specs.Seen.{seen}
use Rattle.smtp_session.proofs.told.Told.obey.Goals as goal

pub returns-in_ok-greet-in-Ok-Helo-clause-ok : goal.returns-in_ok-greet-in-Ok-Helo-clause-ok
returns-in_ok-greet-in-Ok-Helo-clause-ok c n =
    let is : seen c.args.command.now ≡ Ok (smtp.Command.Helo c.in-Ok-Helo.name.now c.in-Ok-Helo.extended) = search rules in
    rw is (c.in_ok-greet-in-Ok-Helo.ensures.ok c.args.plan.now n)

pub returns-in_ok-begin-in-Ok-Mail-clause-ok : goal.returns-in_ok-begin-in-Ok-Mail-clause-ok
returns-in_ok-begin-in-Ok-Mail-clause-ok c n =
    let is : seen c.args.command.now ≡ Ok (smtp.Command.Mail c.in-Ok-Mail.sender.now c.in-Ok-Mail.size) = search rules in
    rw is (c.in_ok-begin-in-Ok-Mail.ensures.ok c.args.plan.now n)

pub returns-in_ok-address-in-Ok-Rcpt-clause-ok : goal.returns-in_ok-address-in-Ok-Rcpt-clause-ok
returns-in_ok-address-in-Ok-Rcpt-clause-ok c n =
    let is : seen c.args.command.now ≡ Ok (smtp.Command.Rcpt c.in-Ok-Rcpt.path.now) = search rules in
    let did = c.in_ok-address-in-Ok-Rcpt.ensures.ok n in
    let told : Option Envelope → Told = λ envelope. record (talk_of c.args.self.now) { envelope = envelope } in
    rw is (did.0, cond_under told _ _ _ _ did.1, c.in_ok-address-in-Ok-Rcpt.ensures.alone n)

pub returns-in_ok-ask_text-in-Ok-Data-clause-ok : goal.returns-in_ok-ask_text-in-Ok-Data-clause-ok
returns-in_ok-ask_text-in-Ok-Data-clause-ok c n =
    let is : seen c.args.command.now ≡ Ok smtp.Command.Data = search rules in
    rw is (c.in_ok-ask_text-in-Ok-Data.ensures.ok c.args.plan.now n)

pub returns-in_ok-reset-in-Ok-Rset-clause-ok : goal.returns-in_ok-reset-in-Ok-Rset-clause-ok
returns-in_ok-reset-in-Ok-Rset-clause-ok c n =
    let is : seen c.args.command.now ≡ Ok smtp.Command.Rset = search rules in
    rw is (c.in_ok-reset-in-Ok-Rset.ensures.ok c.args.plan.now n)
