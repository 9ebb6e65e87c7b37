use Rattle.worked_settles.proofs.WrongMaps.{nobody_is_refused}
use Rattle.worked_settles.proofs.laws.nobody_is_refused.Goals as goal

pub returns : goal.returns
returns c = nobody_is_refused
