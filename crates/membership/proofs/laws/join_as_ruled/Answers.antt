use Rattle.membership.proofs.Ruled.{hears_join}
use Rattle.membership.proofs.laws.join_as_ruled.Goals as goal

pub returns : goal.returns
returns c = hears_join
