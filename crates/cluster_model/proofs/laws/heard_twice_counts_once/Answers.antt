use Rattle.cluster_model.proofs.Worked.{twice_once}
use Rattle.cluster_model.proofs.laws.heard_twice_counts_once.Goals as goal

pub returns : goal.returns
returns c = twice_once
