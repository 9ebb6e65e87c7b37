use Rattle.session_model.proofs.Losses.{lost_is_shown}
use Rattle.session_model.proofs.laws.lost_is_shown.Goals as goal

pub returns : goal.returns
returns c = lost_is_shown
