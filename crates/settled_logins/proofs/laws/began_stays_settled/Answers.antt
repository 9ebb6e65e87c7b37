use Rattle.settled_logins.proofs.Beginning.{stays_settled}
use Rattle.settled_logins.proofs.laws.began_stays_settled.Goals as goal

pub returns : goal.returns
returns c = stays_settled
