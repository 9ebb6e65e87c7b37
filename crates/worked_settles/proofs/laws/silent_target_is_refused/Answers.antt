use Rattle.worked_settles.proofs.WrongMaps.{silent_target_is_refused}
use Rattle.worked_settles.proofs.laws.silent_target_is_refused.Goals as goal

pub returns : goal.returns
returns c = silent_target_is_refused
