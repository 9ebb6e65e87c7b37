use Rattle.cluster_model.proofs.BeginDeliver.{deliver_acts}
use Rattle.cluster_model.proofs.laws.nodes_deliver.Goals as goal

pub returns : goal.returns
returns c = λ own nodes seconds node disk users octets targets within closed ready. deliver_acts own nodes seconds node disk users octets targets within closed ready
