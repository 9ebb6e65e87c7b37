use Rattle.cluster_model.proofs.Ruled.{targets_stand}
use Rattle.cluster_model.proofs.laws.targets_stay.Goals as goal

pub returns : goal.returns
returns c = λ own asked targets want body from at. targets_stand own asked targets want body from at
