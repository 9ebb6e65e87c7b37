use Rattle.pop_session.proofs.Logins.{asks_by_apop}
use Rattle.pop_session.proofs.laws.asks_by_apop.Goals as goal

pub returns : goal.returns
returns c = asks_by_apop
