use Rattle.std.proofs.Common.{refl, ap}
use Rattle.dot_text.specs.Shown.{Shown}
use Rattle.smtp_session.proofs.Units.{session}
use Rattle.smtp_session.proofs.Moving.{is_fed}
use Rattle.smtp_session.proofs.session.SmtpSession.feed.Goals as goal

pub returns-clause-ok : goal.returns-clause-ok
returns-clause-ok c plain due follows =
    let old = c.args.self.now in
    let fed = session old.node old.turn old.told c.feed.new.self old.undotter old.text in
    let is = c.in_ok-feed.ensures.ok in
    c.let_go.ensures.follows _ due
    (is_fed old fed plain due c.args.piece.now refl (ap (λ (s : Shown). s.limit) is) (ap (λ (s : Shown). s.past) is) c.in_ok-feed.ensures.pends follows)
