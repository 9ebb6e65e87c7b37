use Rattle.worked_settles.proofs.WrongListings.{order_is_refused}
use Rattle.worked_settles.proofs.laws.order_is_refused.Goals as goal

pub returns : goal.returns
returns c = order_is_refused
