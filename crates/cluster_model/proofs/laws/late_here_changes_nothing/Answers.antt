use Rattle.cluster_model.proofs.Worked.{late_here}
use Rattle.cluster_model.proofs.laws.late_here_changes_nothing.Goals as goal

pub returns : goal.returns
returns c = late_here
