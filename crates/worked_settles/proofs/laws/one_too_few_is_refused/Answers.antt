use Rattle.worked_settles.proofs.WrongMaps.{one_too_few_is_refused}
use Rattle.worked_settles.proofs.laws.one_too_few_is_refused.Goals as goal

pub returns : goal.returns
returns c = one_too_few_is_refused
