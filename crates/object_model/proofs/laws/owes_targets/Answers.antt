use Rattle.object_model.proofs.Logs.{owes_all}
use Rattle.object_model.proofs.laws.owes_targets.Goals as goal

pub returns : goal.returns
returns c = λ own key state log. owes_all own key state log
