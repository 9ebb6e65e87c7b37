use Rattle.std.proofs.lemmas.List.Sums.{prefix_len-le-length}
use Rattle.dot_text.proofs.Runs.{before_cr}
use Rattle.dot_text.proofs.undotter.run_len.Goals as goal

pub returns-in-Inside-clause-within : goal.returns-in-Inside-clause-within
returns-in-Inside-clause-within c = rw c.len_before.ensures (prefix_len-le-length _ c.args.rest.now)

pub returns-in-Inside-clause-run : goal.returns-in-Inside-clause-run
returns-in-Inside-clause-run c = rw (c.in-Inside.is, c.len_before.ensures) (before_cr c.args.rest.now)
