use Rattle.session_model.proofs.Deleting.{true_answers_delete}
use Rattle.session_model.proofs.laws.true_answers_delete.Goals as goal

pub returns : goal.returns
returns c = true_answers_delete
