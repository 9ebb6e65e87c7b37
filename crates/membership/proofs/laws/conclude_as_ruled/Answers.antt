use Rattle.membership.proofs.Ruled.{concludes}
use Rattle.membership.proofs.laws.conclude_as_ruled.Goals as goal

pub returns : goal.returns
returns c = concludes
