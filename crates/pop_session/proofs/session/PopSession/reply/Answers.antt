use Rattle.std.proofs.Common.{◌≡◌, ℕ, List, ◌++◌, flat_map, map, sym, ap, subst, ◌∙◌}
use Rattle.std.proofs.lemmas.List.{append-nil}
use Rattle.mail_model.specs.Lines.{sent_line}
use Rattle.mail_model.specs.PopReplies.{one_line}
use Rattle.mail_model.specs.Maildrop.{entered_text}
use Rattle.session_model.specs.Calls.{ShowsPart}
use Rattle.call_tickets.specs.declared.step.Move.TheVariants.{Said}
use Rattle.pop_session.specs.declared.session.Turn.TheVariants.{Hears, Replies}
use Rattle.pop_session.specs.declared.session.Turn.{Turn}
use Rattle.pop_session.specs.declared.session.PopSession.{PopSession}
use Rattle.pop_session.specs.declared.stage.Stage.TheVariants.{Transaction}
use Rattle.pop_session.specs.Dues.{text_of, items_told}
use Rattle.pop_session.specs.Slots.{listed_slot}
use Rattle.pop_session.specs.Follows.{Moved, stage_behind}
use Rattle.pop_session.proofs.Moving.{moved_on, moved_last, moved_shows, moved_enters}
use Rattle.pop_session.proofs.session.PopSession.reply.Goals as goal

pub returns-in_ok-message_into-in-Shown-clause-ok : goal.returns-in_ok-message_into-in-Shown-clause-ok
returns-in_ok-message_into-in-Shown-clause-ok c =
    let old = c.args.self.now in
    let shows = c.in_ok-message_into-in-Shown.ensures.ok in
    let Of : List ℕ → Type 0 = λ l. ShowsPart c.in-Shown.lines l shows.reply in (
      flat_map sent_line shows.reply,
      shows.says,
      λ plan. moved_shows plan old.node old.boot old.number old.seconds old.turn old.stage old.cutter c.in-Shown.octets c.in-Shown.lines shows.reply
          (c.in-Replies.is ∙ ap Replies c.in-Shown.is) (subst Of c.as_slice.ensures shows.shows) shows.lines,
    )

pub returns-in_ok-line_into-in-Said-clause-ok : goal.returns-in_ok-line_into-in-Said-clause-ok
returns-in_ok-line_into-in-Said-clause-ok c =
    let old = c.args.self.now in
    let line = c.in-Said.text in (
      flat_map sent_line (one_line (text_of line)),
      c.in_ok-line_into-in-Said.ensures.ok ∙ ap (λ (l : List ℕ). c.args.out.now.items ++ l) (sym (append-nil (sent_line (text_of line)))),
      λ plan. moved_on plan old.node old.boot old.number old.seconds old.turn old.stage old.cutter line (c.in-Replies.is ∙ ap Replies c.in-Said.is),
    )

pub returns-in_ok-line_into-in-Last-clause-ok : goal.returns-in_ok-line_into-in-Last-clause-ok
returns-in_ok-line_into-in-Last-clause-ok c =
    let old = c.args.self.now in
    let line = c.in-Last.text in (
      flat_map sent_line (one_line (text_of line)),
      c.in_ok-line_into-in-Last.ensures.ok ∙ ap (λ (l : List ℕ). c.args.out.now.items ++ l) (sym (append-nil (sent_line (text_of line)))),
      λ plan. moved_last plan old.node old.boot old.number old.seconds old.turn old.stage old.cutter line (c.in-Replies.is ∙ ap Replies c.in-Last.is),
    )

pub returns-in_ok-line_into-in-Entered-clause-ok : goal.returns-in_ok-line_into-in-Entered-clause-ok
returns-in_ok-line_into-in-Entered-clause-ok c =
    let old = c.args.self.now in
    let login = c.in-Entered.login in
    let listed = c.in-Entered.listed in
    let is = c.in-Replies.is ∙ ap Replies c.in-Entered.is in
    let After : PopSession = record old { turn = Hears; stage = Transaction login (map listed_slot (items_told listed)) } in
    let now : c.enter.new.self ≡ record old { turn = Hears; stage = Transaction login (map listed_slot (items_told listed)) } =
    c.enter.ensures ∙ ap (λ (t : Turn). record old { turn = Hears; stage = stage_behind t old.stage c.in_ok-listing-in-Entered.listing }) is
    ∙ ap (λ l. record old { turn = Hears; stage = Transaction login l }) c.in_ok-listing-in-Entered.ensures in (
      flat_map sent_line (one_line entered_text),
      c.in_ok-line_into-in-Entered.ensures.ok,
      λ plan.
          let To : PopSession → Type 0 = λ s. Moved plan old Said (flat_map sent_line (one_line entered_text)) s in
          subst To (sym now) (moved_enters plan old.node old.boot old.number old.seconds old.turn old.stage old.cutter login listed is),
    )
