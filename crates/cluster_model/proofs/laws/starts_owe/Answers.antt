use Rattle.cluster_model.proofs.Recovering.{recovers}
use Rattle.cluster_model.proofs.laws.starts_owe.Goals as goal

pub returns : goal.returns
returns c = λ own records. recovers own records
