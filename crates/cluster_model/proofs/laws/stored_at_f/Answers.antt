use Rattle.cluster_model.proofs.Ruled.{stored_at}
use Rattle.cluster_model.proofs.laws.stored_at_f.Goals as goal

pub returns : goal.returns
returns c = λ confirm mishaps filing want is. stored_at confirm mishaps filing want is
