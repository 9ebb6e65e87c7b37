use Rattle.session_model.proofs.Moves.{is_fed}
use Rattle.session_model.proofs.laws.is_fed.Goals as goal

pub returns : goal.returns
returns c = is_fed
