use Rattle.session_model.proofs.Moves.{begins}
use Rattle.session_model.proofs.laws.begins.Goals as goal

pub returns : goal.returns
returns c = begins
