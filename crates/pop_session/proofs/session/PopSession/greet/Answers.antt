use Rattle.pop_session.proofs.Moving.{moved_greet}
use Rattle.pop_session.proofs.session.PopSession.greet.Goals as goal

pub returns-clause-ok : goal.returns-clause-ok
returns-clause-ok c =
    let old = c.args.self.now in
    (_, c.in_ok-ready_into.ensures.ok, λ plan. moved_greet plan old.node old.boot old.number old.seconds old.turn old.stage old.cutter c.requires)
