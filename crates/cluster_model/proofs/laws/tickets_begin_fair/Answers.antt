use Rattle.cluster_model.proofs.Fairness.{begin_fair}
use Rattle.cluster_model.proofs.laws.tickets_begin_fair.Goals as goal

pub returns : goal.returns
returns c = λ confirm own. begin_fair confirm own
