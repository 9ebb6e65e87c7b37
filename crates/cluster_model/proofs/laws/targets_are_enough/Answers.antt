use Rattle.cluster_model.proofs.Counting.{targets_enough}
use Rattle.cluster_model.proofs.laws.targets_are_enough.Goals as goal

pub returns : goal.returns
returns c = λ confirm copies own mask nodes le many. targets_enough confirm copies own mask nodes le many
