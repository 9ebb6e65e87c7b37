use Rattle.session_model.proofs.Moves.{is_closed}
use Rattle.session_model.proofs.laws.is_closed.Goals as goal

pub returns : goal.returns
returns c = is_closed
