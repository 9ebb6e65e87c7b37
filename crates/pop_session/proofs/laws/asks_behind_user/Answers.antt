use Rattle.pop_session.proofs.Logins.{asks_behind_user}
use Rattle.pop_session.proofs.laws.asks_behind_user.Goals as goal

pub returns : goal.returns
returns c = asks_behind_user
