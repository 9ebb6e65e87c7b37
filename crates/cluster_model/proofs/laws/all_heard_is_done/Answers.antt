use Rattle.cluster_model.proofs.Fairness.{heard_done}
use Rattle.cluster_model.proofs.laws.all_heard_is_done.Goals as goal

pub returns : goal.returns
returns c = λ confirm ticket want wants fair is heard. heard_done confirm ticket want wants fair is heard
