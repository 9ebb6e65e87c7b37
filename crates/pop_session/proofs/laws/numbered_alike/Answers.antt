use Rattle.pop_session.proofs.Shows.{numbered_alike}
use Rattle.pop_session.proofs.laws.numbered_alike.Goals as goal

pub returns : goal.returns
returns c = numbered_alike
