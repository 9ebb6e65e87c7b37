use Rattle.dot_text.proofs.Once.{feeds}
use Rattle.dot_text.proofs.undotter.Undotter.feed.Goals as goal

pub returns-in-Ok-clause-ok : goal.returns-in-Ok-clause-ok
returns-in-Ok-clause-ok c =
    (c.in-Ok.ensures.ok.0, c.in-Ok.ensures.ok.1, λ fed given undots. feeds c.in-Ok.cut _ fed c.args.piece.now _ (c.in-Ok.ensures.ok.2 fed given undots))
