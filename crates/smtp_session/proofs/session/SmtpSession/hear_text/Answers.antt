use Rattle.std.proofs.Common.{◌≡◌, ℕ, List, [], length, drop, sym, ap, subst, ◌∙◌}
use Rattle.std.proofs.lemmas.List.{append-nil}
use Rattle.std.proofs.Math.Seq.{drop-length}
use Rattle.dot_text.specs.Shown.{Shown}
use Rattle.dot_text.specs.Places.{IsWithin}
use Rattle.dot_text.specs.declared.undotter.Cut.TheVariants.{Ended}
use Rattle.call_tickets.specs.declared.step.Move.TheVariants.{Idle}
use Rattle.smtp_session.specs.declared.session.Turn.{Turn}
use Rattle.smtp_session.specs.Follows.{Moved}
use Rattle.smtp_session.proofs.Units.{session}
use Rattle.smtp_session.proofs.Texts.{moved_on, ended}
use Rattle.smtp_session.proofs.session.SmtpSession.hear_text.Goals as goal

pub returns-in-More-clause-ok : goal.returns-in-More-clause-ok
returns-in-More-clause-ok c =
    let old = c.args.self.now in
    let read = c.in_ok-read.ensures.ok in
    let feeds = rw (c.in-More.is, c.rest.ensures) at read.2 in
    let all : c.skip.new.self ≡ record old.cutter { rest = [] } =
    c.skip.ensures.rest ∙ ap (λ (l : List ℕ). record old.cutter { rest = l }) (ap (λ (l : List ℕ). drop (length l) old.cutter.rest) c.rest-count.ensures ∙ drop-length old.cutter.rest) in (
      [],
      sym (append-nil c.args.out.now.items),
      λ plan.
          let At : Turn → Type 0 = λ t. Moved plan (session old.node t old.told old.cutter old.undotter old.text) Idle []
          (session old.node t old.told c.skip.new.self c.read.new.undotter c.settle.new.self) in
          subst At (sym c.requires.turn)
          (moved_on plan old.node old.told old.cutter c.skip.new.self old.undotter c.read.new.undotter old.text c.read.new.self read.0 c.requires.inside read.1 feeds c.settle.new.self c.settle.ensures all),
    )

pub returns-in-Ok-clause-ok : goal.returns-in-Ok-clause-ok
returns-in-Ok-clause-ok c =
    let old = c.args.self.now in
    let read = c.in_ok-read.ensures.ok in
    let ends = rw (c.in-Ended.is, c.rest.ensures) at read.2 in
    let within : IsWithin (Ended c.in-Ended.used) old.cutter.rest = rw (c.in-Ended.is, c.rest.ensures) at c.in_ok-read.ensures.used in
    let did = c.in-Ok.ensures.ok in
    let same = c.in-Ok.ensures.same in
    let cut : c.skip-in-Ok.new.self ≡ record old.cutter { rest = drop c.in-Ended.used old.cutter.rest } =
    c.skip-in-Ok.ensures.rest ∙ ap (λ (s : Shown). record s { rest = drop c.in-Ended.used s.rest }) same.1 in (
      did.0,
      did.1,
      λ plan.
          ended plan old.node old.told old.cutter c.skip-in-Ok.new.self old.undotter c.read.new.undotter old.text c.read.new.self read.0 c.requires.inside read.1
          old.turn c.end_text.new.self.turn c.in-Ended.used c.end_text.new.self.node c.end_text.new.self.told c.end_text.new.self.undotter c.end_text.new.self.text c.in-Ok.did did.0
          c.requires.turn same.0 same.2 c.in-Ok.ensures.text within ends cut c.in-Ok.ensures.quiet c.in-Ok.ensures.few (λ lines text. did.2 plan lines text),
    )
