use Rattle.dot_text.proofs.Once.{lines_one}
use Rattle.dot_text.proofs.laws.lines_are_one.Goals as goal

pub returns : goal.returns
returns c = lines_one
