use Rattle.settled_logins.proofs.Listed.{began_lists}
use Rattle.settled_logins.proofs.laws.began_lists_standing.Goals as goal

pub returns : goal.returns
returns c = began_lists
