use Rattle.cluster_model.proofs.Worked.{move_on}
use Rattle.cluster_model.proofs.laws.targets_move_on.Goals as goal

pub returns : goal.returns
returns c = move_on
