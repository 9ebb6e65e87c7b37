use Rattle.cluster_model.proofs.Fairness.{stay_fair}
use Rattle.cluster_model.proofs.laws.tickets_stay_fair.Goals as goal

pub returns : goal.returns
returns c = λ confirm ticket fair. stay_fair confirm ticket fair
