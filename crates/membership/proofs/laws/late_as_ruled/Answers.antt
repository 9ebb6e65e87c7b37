use Rattle.membership.proofs.Ruled.{late_join}
use Rattle.membership.proofs.laws.late_as_ruled.Goals as goal

pub returns : goal.returns
returns c = late_join
