use Rattle.cluster_model.proofs.Worked.{gone_first}
use Rattle.cluster_model.proofs.laws.gone_before_it_came.Goals as goal

pub returns : goal.returns
returns c = gone_first
