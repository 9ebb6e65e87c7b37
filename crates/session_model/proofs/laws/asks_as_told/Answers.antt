use Rattle.session_model.proofs.Asking.{asks_as_told}
use Rattle.session_model.proofs.laws.asks_as_told.Goals as goal

pub returns : goal.returns
returns c = asks_as_told
