use Rattle.settled_logins.proofs.Beginning.{begins_settled}
use Rattle.settled_logins.proofs.laws.logins_begin_settled.Goals as goal

pub returns : goal.returns
returns c = begins_settled
