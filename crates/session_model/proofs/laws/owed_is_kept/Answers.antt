use Rattle.session_model.proofs.Kept.{owed_is_kept}
use Rattle.session_model.proofs.laws.owed_is_kept.Goals as goal

pub returns : goal.returns
returns c = owed_is_kept
