use Rattle.cluster_model.proofs.Promises.{acknowledged_kept}
use Rattle.cluster_model.proofs.laws.acknowledged_kept.Goals as goal

pub returns : goal.returns
returns c = λ confirm w sound copy acked. acknowledged_kept confirm w sound copy acked
