use Rattle.cluster_model.proofs.Promises.{acknowledged_stand}
use Rattle.cluster_model.proofs.laws.acknowledged_stand.Goals as goal

pub returns : goal.returns
returns c = λ confirm w sound copy acked unstruck. acknowledged_stand confirm w sound copy acked unstruck
