use Rattle.std.proofs.Common.{sym, ◌∙◌}
use Rattle.pop_session.proofs.Moving.{takes_answer}
use Rattle.pop_session.proofs.session.PopSession.answer.Goals as goal

pub returns-in-Waits-clause-replies : goal.returns-in-Waits-clause-replies
returns-in-Waits-clause-replies c plain state call reply follows waiting replied =
    let old = c.args.self.now in
    takes_answer old.node old.boot old.number old.seconds old.turn old.stage old.cutter c.in-Waits.asked c.due.result _ plain state call reply
    (sym c.replace.ensures.value ∙ c.in-Waits.is) c.due.ensures.says follows waiting replied
