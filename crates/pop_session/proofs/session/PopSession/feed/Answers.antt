use Rattle.pop_session.proofs.Replying.{is_fed}
use Rattle.pop_session.proofs.Moving.{found_follows}
use Rattle.std.proofs.Common.{ap}
use Rattle.dot_text.specs.Shown.{Shown}
use Rattle.pop_session.proofs.session.PopSession.feed.Goals as goal

pub returns-clause-ok : goal.returns-clause-ok
returns-clause-ok c plain due follows =
    let old = c.args.self.now in
    found_follows old.node old.boot old.number old.seconds old.turn old.stage c.feed.new.self c.find.new.self c.find.result _ due c.find.ensures
    (is_fed old.node old.boot old.number old.seconds old.turn old.stage old.cutter c.feed.new.self c.args.piece.now plain due (ap (λ (s : Shown). s.limit) c.in_ok-feed.ensures.ok) c.in_ok-feed.ensures.pends follows)
