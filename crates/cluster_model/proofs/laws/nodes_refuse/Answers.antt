use Rattle.cluster_model.proofs.Closing.{refuse_acts}
use Rattle.cluster_model.proofs.laws.nodes_refuse.Goals as goal

pub returns : goal.returns
returns c = λ own kind mishaps drawn node disk ready. refuse_acts own node disk ready kind mishaps drawn
