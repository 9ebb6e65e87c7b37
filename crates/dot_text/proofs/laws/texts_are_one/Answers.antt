use Rattle.dot_text.proofs.Once.{texts_one}
use Rattle.dot_text.proofs.laws.texts_are_one.Goals as goal

pub returns : goal.returns
returns c = texts_one
