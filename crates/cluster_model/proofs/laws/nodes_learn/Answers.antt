use Rattle.cluster_model.proofs.Learning.{learns}
use Rattle.cluster_model.proofs.laws.nodes_learn.Goals as goal

pub returns : goal.returns
returns c = λ own node disk letter ready. learns own node disk _ ready
