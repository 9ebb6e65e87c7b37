use Rattle.cluster_model.proofs.Starting.{start_acts}
use Rattle.cluster_model.proofs.laws.nodes_start.Goals as goal

pub returns : goal.returns
returns c = λ n disk pending new node starts ready. start_acts n disk pending new node starts ready
