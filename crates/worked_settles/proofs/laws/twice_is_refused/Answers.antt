use Rattle.worked_settles.proofs.WrongListings.{twice_is_refused}
use Rattle.worked_settles.proofs.laws.twice_is_refused.Goals as goal

pub returns : goal.returns
returns c = twice_is_refused
