use Rattle.whole_world.proofs.Reporting.{one_outcome}
use Rattle.whole_world.proofs.laws.reports_are_one.Goals as goal

pub returns : goal.returns
returns c = λ plan tells w from to a b one two told also p q. one_outcome plan tells w from to a b one two told also p q
