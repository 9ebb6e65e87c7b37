use Rattle.std.proofs.Common.{◌≡◌, true, false, nat_lt, [], length, refl, sym, ap, ◌∙◌, rules}
use Rattle.std.specs.Prelude.{◌||◌}
use Rattle.std.proofs.lemmas.List.{append-nil}
use Rattle.mail_model.specs.Lines.{sent_line}
use Rattle.smtp_session.specs.declared.reply.Reply.TheVariants.{TooLarge}
use Rattle.smtp_session.specs.Replies.{text_of}
use Rattle.smtp_session.specs.Talks.{envelope_of}
use Rattle.smtp_session.proofs.Mails.{large_text, small_text, mail_is}
use Rattle.smtp_session.proofs.session.SmtpSession.end_text.Goals as goal

pub returns-then-is_large-clause-ok : goal.returns-then-is_large-clause-ok
returns-then-is_large-clause-ok c =
    let old = c.args.self.now in
    let passed : (old.text.1 || nat_lt 16777216 (length old.text.0)) ≡ true = search rules in (
      sent_line (text_of TooLarge old.node),
      c.in_ok-line_into.ensures.ok,
      λ plan lines text. (large_text old.text lines passed text, refl, c.end_text.ensures.told plan lines [], refl),
    )

pub returns-clause-ok : goal.returns-clause-ok
returns-clause-ok c =
    let old = c.args.self.now in
    let kept : (old.text.1 || nat_lt 16777216 (length old.text.0)) ≡ false = search rules in (
      [],
      sym (append-nil c.args.out.now.items),
      λ plan lines text.
          let small = small_text old.text lines kept text in
          let octets = c.into_octets.ensures ∙ ap (λ t. t.0) c.replace-text.ensures.value ∙ small.0 in (
            small.1,
            refl,
            mail_is old.told lines (envelope_of c.end_text-envelope.result) c.in_ok-helo.helo c.into_octets.result c.is_extended-extended.result c.end_text-envelope.ensures.envelope c.in_ok-helo.ensures.name c.is_extended-extended.ensures octets,
            c.end_text-envelope.result.few,
            c.end_text-envelope.ensures.told plan lines [],
            refl,
          ),
    )
