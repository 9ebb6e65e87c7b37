use Rattle.cluster_model.proofs.Fairness.{failed_cause}
use Rattle.cluster_model.proofs.laws.failed_has_cause.Goals as goal

pub returns : goal.returns
returns c = λ confirm ticket mishaps fair e. failed_cause confirm ticket mishaps fair e
