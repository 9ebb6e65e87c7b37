use Rattle.worked_settles.proofs.Formed.{members_are_one}
use Rattle.worked_settles.proofs.laws.members_are_one.Goals as goal

pub returns : goal.returns
returns c = members_are_one
