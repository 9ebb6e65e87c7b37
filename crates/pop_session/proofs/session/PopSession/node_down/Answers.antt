use Rattle.pop_session.proofs.Replying.{falls}
use Rattle.pop_session.proofs.session.PopSession.node_down.Goals as goal

pub returns-clause-ok : goal.returns-clause-ok
returns-clause-ok c =
    let old = c.args.self.now in
    (_, c.in_ok-down_into.ensures.ok, λ plain due follows on. falls old.node old.boot old.number old.seconds old.turn old.stage old.cutter plain due follows on)
