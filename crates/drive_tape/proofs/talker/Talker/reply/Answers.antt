use Rattle.std.proofs.Common.{subst}
use Rattle.std.proofs.lemmas.Result.{on_ok_weaker}
use Rattle.call_tickets.specs.Moves.Due.{Nothing}
use Rattle.drive_tape.specs.declared.talker.Talker.{Talker}
use Rattle.drive_tape.specs.Speakers.{Matches}
use Rattle.drive_tape.proofs.talker.Talker.reply.Goals as goal

pub returns-in-Smtp-clause-replied : goal.returns-in-Smtp-clause-replied
returns-in-Smtp-clause-replied c = on_ok_weaker c.reply.result (λ did. (
  did.0,
  did.1,
  λ plain state call reply follows stands is.
      let At : Talker → Type 0 = λ t. Matches t plain Nothing in
      did.2 plain state call reply (subst At c.in-Smtp.is follows) stands is,
)) c.reply.ensures.replied

pub returns-in-Pop-clause-replied : goal.returns-in-Pop-clause-replied
returns-in-Pop-clause-replied c = on_ok_weaker c.reply-in-Pop.result (λ did. (
  did.0,
  did.1,
  λ plain state call reply follows stands is.
      let At : Talker → Type 0 = λ t. Matches t plain Nothing in
      did.2 plain state call reply (subst At c.in-Pop.is follows) stands is,
)) c.reply-in-Pop.ensures.replied
