use Rattle.cluster_model.proofs.Ruled.{counts_once}
use Rattle.cluster_model.proofs.laws.counts_once.Goals as goal

pub returns : goal.returns
returns c = λ body from want. counts_once body from want
