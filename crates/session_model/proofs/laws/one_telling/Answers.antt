use Rattle.session_model.proofs.Telling.{one_telling}
use Rattle.session_model.proofs.laws.one_telling.Goals as goal

pub returns : goal.returns
returns c = one_telling
