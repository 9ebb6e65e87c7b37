use Rattle.cluster_owes.proofs.Sure.{none_waits}
use Rattle.cluster_owes.proofs.laws.none_waits.Goals as goal

pub returns : goal.returns
returns c = none_waits
