use Rattle.session_model.proofs.Filing.{true_answers_show}
use Rattle.session_model.proofs.laws.true_answers_show.Goals as goal

pub returns : goal.returns
returns c = true_answers_show
