use Rattle.worked_settles.proofs.WrongMaps.{stranger_is_refused}
use Rattle.worked_settles.proofs.laws.stranger_is_refused.Goals as goal

pub returns : goal.returns
returns c = stranger_is_refused
