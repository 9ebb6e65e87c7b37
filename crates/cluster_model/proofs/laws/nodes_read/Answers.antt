use Rattle.cluster_model.proofs.Reading.{reading_acts}
use Rattle.cluster_model.proofs.laws.nodes_read.Goals as goal

pub returns : goal.returns
returns c = λ own calls count out node disk of ready. reading_acts own node disk calls count out of ready
