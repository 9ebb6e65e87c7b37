use Rattle.session_model.proofs.Did.{did_speaks}
use Rattle.session_model.proofs.laws.speaks_on.Goals as goal

pub returns : goal.returns
returns c = did_speaks
