use Rattle.session_model.proofs.Mailing.{stored_as_told}
use Rattle.session_model.proofs.laws.stored_as_told.Goals as goal

pub returns : goal.returns
returns c = stored_as_told
