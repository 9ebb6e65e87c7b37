use Rattle.worked_settles.proofs.WrongMaps.{falling_is_refused}
use Rattle.worked_settles.proofs.laws.falling_is_refused.Goals as goal

pub returns : goal.returns
returns c = falling_is_refused
