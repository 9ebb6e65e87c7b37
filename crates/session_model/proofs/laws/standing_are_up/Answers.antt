use Rattle.session_model.proofs.Standing.{standing_are_up}
use Rattle.session_model.proofs.laws.standing_are_up.Goals as goal

pub returns : goal.returns
returns c = standing_are_up
