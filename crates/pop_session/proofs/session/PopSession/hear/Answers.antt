use Rattle.std.proofs.Common.{◌≡◌, ℕ, false, List, [], ◌∷◌, ◌++◌, flat_map, take, refl, sym, ap, subst, ◌∙◌}
use Rattle.std.specs.Prelude.{codes}
use Rattle.std.proofs.lemmas.List.{append-nil}
use Rattle.mail_model.specs.Lines.{sent_line}
use Rattle.mail_model.specs.Session.{is_long_line}
use Rattle.mail_model.specs.PopReplies.{banner_text}
use Rattle.dot_text.specs.Shown.{Shown, Finds, behind_line}
use Rattle.dot_text.specs.declared.cutter.Line.TheVariants.{Whole, Long}
use Rattle.call_tickets.specs.declared.step.Move.TheVariants.{Said}
use Rattle.pop_session.specs.declared.stage.Heard.TheVariants as hears
use Rattle.pop_session.specs.Shown.{HearsLine, reply_in}
use Rattle.pop_session.proofs.Units.{is_short, hears_long}
use Rattle.pop_session.proofs.Moving.{moved_none, moved_line, found_same}
use Rattle.pop_session.proofs.session.PopSession.hear.Goals as goal

pub returns-in-None-clause-ok : goal.returns-in-None-clause-ok
returns-in-None-clause-ok c =
    let old = c.args.self.now in
    ([], sym (append-nil c.args.out.now.items), moved_none c.args.plan.now old.node old.boot old.number old.seconds old.turn old.stage old.stage old.cutter c.find.new.self c.requires c.in-None.ensures)

pub returns-in_ok-hear_long-in-Some-Long-clause-ok : goal.returns-in_ok-hear_long-in-Some-Long-clause-ok
returns-in_ok-hear_long-in-Some-Long-clause-ok c =
    let old = c.args.self.now in
    let count = c.in-Some-Long.length in
    let finds : Finds old.cutter (Long count) c.find.new.self = rw c.in-Some-Long.field-0-is at c.in-Some-Long.ensures in
    let cut = c.take.ensures ∙ ap (λ (s : Shown). behind_line s (Long count)) finds.same in
    let heard = c.in_ok-hear_long-in-Some-Long.ensures in
    let line : List ℕ = codes "-ERR line too long" in (
      flat_map sent_line (codes "-ERR line too long" ∷ []),
      heard.said ∙ ap (λ (l : List ℕ). c.args.out.now.items ++ l) (sym (append-nil (sent_line (codes "-ERR line too long")))),
      moved_line c.args.plan.now old.node old.boot old.number old.seconds old.turn old.stage c.hear_long.new.self old.cutter c.take.new.self c.requires (Long count)
          (found_same old.cutter c.find.new.self (Long count) finds) cut (hears.Said (codes "-ERR line too long" ∷ [])) old.turn Said _ (c.requires, refl) refl tt c.hear_long.ensures.login c.hear_long.ensures.items
          (λ text none kind limit. hears_long (banner_text old.node old.boot old.number old.seconds) c.args.plan.now old.stage c.hear_long.new.self text old.cutter.limit limit kind heard.ok c.hear_long.ensures.login c.hear_long.ensures.items),
    )

pub returns-in_ok-heard-in-Some-Whole-clause-ok : goal.returns-in_ok-heard-in-Some-Whole-clause-ok
returns-in_ok-heard-in-Some-Whole-clause-ok c =
    let old = c.args.self.now in
    let count = c.in-Some-Whole.length in
    let finds : Finds old.cutter (Whole count) c.find.new.self = rw c.in-Some-Whole.field-0-is at c.in-Some-Whole.ensures in
    let cut = c.take-in-Some-Whole.ensures ∙ ap (λ (s : Shown). behind_line s (Whole count)) finds.same in
    let heard = c.in_ok-heard-in-Some-Whole.heard in
    let later = c.hear.new.self in
    let line : take count c.rest.result.now ≡ take count old.cutter.rest = ap (λ (l : List ℕ). take count l) (c.rest.ensures ∙ ap (λ (s : Shown). s.rest) finds.same) in
    let Means : List ℕ → Type 0 = λ l. is_long_line l ≡ false → HearsLine (banner_text old.node old.boot old.number old.seconds) c.args.plan.now old.stage l heard later in
    let means : Means (take count old.cutter.rest) = subst Means line c.in_ok-heard-in-Some-Whole.ensures.ok in (
      flat_map sent_line (reply_in heard),
      c.in_ok-heard-in-Some-Whole.ensures.said,
      moved_line c.args.plan.now old.node old.boot old.number old.seconds old.turn old.stage later old.cutter c.take-in-Some-Whole.new.self c.requires (Whole count)
          (found_same old.cutter c.find.new.self (Whole count) finds) cut heard c.begun-turn.result.0 c.begun-turn.result.1 _ c.begun-turn.ensures refl
          c.in_ok-heard-in-Some-Whole.ensures.own c.hear.ensures.login c.hear.ensures.items
          (λ text none kind limit.
          let Short : List ℕ → Type 0 = λ l. is_long_line l ≡ false in
          subst Means (sym kind.0) means (is_short text old.cutter.limit limit kind.1)),
    )
