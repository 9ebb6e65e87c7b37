use Rattle.membership.proofs.Ruled.{hears_group}
use Rattle.membership.proofs.laws.group_as_ruled.Goals as goal

pub returns : goal.returns
returns c = hears_group
