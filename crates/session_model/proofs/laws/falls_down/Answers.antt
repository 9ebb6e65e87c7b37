use Rattle.session_model.proofs.Moves.{falls_down}
use Rattle.session_model.proofs.laws.falls_down.Goals as goal

pub returns : goal.returns
returns c = falls_down
