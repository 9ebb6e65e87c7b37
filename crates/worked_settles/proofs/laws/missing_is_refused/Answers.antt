use Rattle.worked_settles.proofs.WrongListings.{missing_is_refused}
use Rattle.worked_settles.proofs.laws.missing_is_refused.Goals as goal

pub returns : goal.returns
returns c = missing_is_refused
