use Rattle.session_model.proofs.Driven.{driven_is_shown}
use Rattle.session_model.proofs.laws.driven_is_shown.Goals as goal

pub returns : goal.returns
returns c = driven_is_shown
