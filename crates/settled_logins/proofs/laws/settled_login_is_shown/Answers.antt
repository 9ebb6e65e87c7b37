use Rattle.settled_logins.proofs.Chain.{login_is_shown}
use Rattle.settled_logins.proofs.laws.settled_login_is_shown.Goals as goal

pub returns : goal.returns
returns c = login_is_shown
