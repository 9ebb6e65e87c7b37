use Rattle.cluster_model.proofs.Starting.{stop_acts}
use Rattle.cluster_model.proofs.laws.nodes_stop_start.Goals as goal

pub returns : goal.returns
returns c = λ n disk pending next new stops ready. stop_acts n disk pending next new stops ready
