use Rattle.session_model.proofs.Moves.{is_answered}
use Rattle.session_model.proofs.laws.is_answered.Goals as goal

pub returns : goal.returns
returns c = is_answered
