use Rattle.session_model.proofs.Cutting.{acts_are_shown}
use Rattle.session_model.proofs.laws.acts_are_shown.Goals as goal

pub returns : goal.returns
returns c = acts_are_shown
