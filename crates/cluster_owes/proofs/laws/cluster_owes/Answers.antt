use Rattle.cluster_owes.proofs.Owed.{cluster_owes}
use Rattle.cluster_owes.proofs.laws.cluster_owes.Goals as goal

pub returns : goal.returns
returns c = cluster_owes
