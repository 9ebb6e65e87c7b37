use Rattle.std.proofs.Common.{◌≡◌, ℕ, false, List, [], take, sym, ap, subst, ◌∙◌}
use Rattle.std.proofs.lemmas.List.{append-nil}
use Rattle.mail_model.specs.Session.{is_long_line}
use Rattle.dot_text.specs.Shown.{Shown, Finds, behind_line}
use Rattle.dot_text.specs.declared.cutter.Line.TheVariants.{Whole, Long}
use Rattle.call_tickets.specs.declared.step.Move.TheVariants.{Said, Idle}
use Rattle.smtp_session.specs.declared.session.Turn.{Turn}
use Rattle.smtp_session.specs.Follows.{Moved}
use Rattle.smtp_session.specs.Hears.{HearsLine, reply_in}
use Rattle.smtp_session.specs.Talks.{talk_of}
use Rattle.smtp_session.specs.Replies.{text_of, octets_of}
use Rattle.smtp_session.specs.declared.reply.Reply.TheVariants.{LineTooLong}
use Rattle.mail_model.specs.Lines.{sent_line}
use Rattle.smtp_session.proofs.Units.{session}
use Rattle.smtp_session.proofs.Moving.{moved_none, moved_long, moved_short, found_same}
use Rattle.smtp_session.proofs.session.SmtpSession.hear_line.Goals as goal

pub returns-in-None-clause-ok : goal.returns-in-None-clause-ok
returns-in-None-clause-ok c =
    let old = c.args.self.now in
    let At : Turn → Type 0 = λ t. Moved c.args.plan.now (session old.node t old.told old.cutter old.undotter old.text) Idle [] (session old.node t old.told c.find.new.self old.undotter old.text) in
    ([], sym (append-nil c.args.out.now.items), subst At (sym c.requires.turn) (moved_none c.args.plan.now old.node old.told old.undotter old.text c.requires.outside old.cutter c.find.new.self c.in-None.ensures))

pub returns-in_ok-line_into-in-Some-Long-clause-ok : goal.returns-in_ok-line_into-in-Some-Long-clause-ok
returns-in_ok-line_into-in-Some-Long-clause-ok c =
    let old = c.args.self.now in
    let count = c.in-Some-Long.length in
    let now = c.take.new.self in
    let finds : Finds old.cutter (Long count) c.find.new.self = rw c.in-Some-Long.field-0-is at c.in-Some-Long.ensures in
    let taken = c.take.ensures ∙ ap (λ (s : Shown). behind_line s (Long count)) finds.same in
    let At : Turn → Type 0 = λ t. Moved c.args.plan.now (session old.node t old.told old.cutter old.undotter old.text) Said (sent_line (text_of LineTooLong old.node)) (session old.node t old.told now old.undotter old.text) in (
      sent_line (text_of LineTooLong old.node),
      c.in_ok-line_into-in-Some-Long.ensures.ok,
      subst At (sym c.requires.turn)
          (moved_long c.args.plan.now old.node old.told old.undotter old.text c.requires.outside old.cutter now count (found_same old.cutter c.find.new.self (Long count) finds) taken),
    )

pub returns-in_ok-heard-in-Some-Whole-clause-ok : goal.returns-in_ok-heard-in-Some-Whole-clause-ok
returns-in_ok-heard-in-Some-Whole-clause-ok c =
    let old = c.args.self.now in
    let count = c.in-Some-Whole.length in
    let now = c.take-in-Some-Whole.new.self in
    let heard = c.in_ok-heard-in-Some-Whole.heard in
    let later = c.hear.new.self in
    let finds : Finds old.cutter (Whole count) c.find.new.self = rw c.in-Some-Whole.field-0-is at c.in-Some-Whole.ensures in
    let taken = c.take-in-Some-Whole.ensures ∙ ap (λ (s : Shown). behind_line s (Whole count)) finds.same in
    let line : take count c.rest.result.now ≡ take count old.cutter.rest = ap (λ (l : List ℕ). take count l) (c.rest.ensures ∙ ap (λ (s : Shown). s.rest) finds.same) in
    let Means : List ℕ → Type 0 = λ l. is_long_line l ≡ false → HearsLine c.args.plan.now (talk_of old.told) l heard (talk_of later) in
    let hears : Means (take count old.cutter.rest) = subst Means line c.in_ok-heard-in-Some-Whole.ensures.ok in
    let octets : List ℕ = octets_of (reply_in heard) old.node in
    let At : Turn → Type 0 = λ t. Moved c.args.plan.now (session old.node t old.told old.cutter old.undotter old.text) Said octets
    (session old.node c.turn_behind-self.result later now old.undotter old.text) in (
      octets,
      c.in_ok-heard-in-Some-Whole.ensures.said,
      subst At (sym c.requires.turn)
          (moved_short c.args.plan.now old.node old.told old.undotter old.text c.requires.outside old.cutter now count (found_same old.cutter c.find.new.self (Whole count) finds) taken
          heard later c.turn_behind-self.result (λ limit. hears) c.turn_behind-self.ensures),
    )
