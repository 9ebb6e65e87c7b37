use Rattle.worked_sessions.proofs.WrongStores.{wrong_stores}
use Rattle.worked_sessions.proofs.laws.wrong_stores.Goals as goal

pub returns : goal.returns
returns c = wrong_stores
