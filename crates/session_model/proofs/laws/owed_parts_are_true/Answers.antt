use Rattle.session_model.proofs.Owed.{owed_parts_are_true}
use Rattle.session_model.proofs.laws.owed_parts_are_true.Goals as goal

pub returns : goal.returns
returns c = owed_parts_are_true
