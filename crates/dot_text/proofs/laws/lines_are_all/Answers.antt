use Rattle.dot_text.proofs.Once.{lines_all}
use Rattle.dot_text.proofs.laws.lines_are_all.Goals as goal

pub returns : goal.returns
returns c = lines_all
