use Rattle.worked_settles.proofs.WrongListings.{deleted_is_refused}
use Rattle.worked_settles.proofs.laws.deleted_is_refused.Goals as goal

pub returns : goal.returns
returns c = deleted_is_refused
