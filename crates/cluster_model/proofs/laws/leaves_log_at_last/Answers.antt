use Rattle.cluster_model.proofs.Ruled.{leaves_at_last}
use Rattle.cluster_model.proofs.laws.leaves_log_at_last.Goals as goal

pub returns : goal.returns
returns c = λ own nodes node disk key state from entry here gone. leaves_at_last own nodes node disk key state from entry here gone
