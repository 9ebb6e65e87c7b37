use Rattle.cluster_model.proofs.Worked.{started_again}
use Rattle.cluster_model.proofs.laws.started_has_no_epoch.Goals as goal

pub returns : goal.returns
returns c = started_again
