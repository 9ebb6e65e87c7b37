use Rattle.session_model.proofs.Resting.{driven_answers_units}
use Rattle.session_model.proofs.laws.driven_answers_units.Goals as goal

pub returns : goal.returns
returns c = driven_answers_units
