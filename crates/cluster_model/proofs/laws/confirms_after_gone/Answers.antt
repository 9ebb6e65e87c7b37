use Rattle.cluster_model.proofs.Ruled.{after_gone}
use Rattle.cluster_model.proofs.laws.confirms_after_gone.Goals as goal

pub returns : goal.returns
returns c = λ own nodes node disk letter user marks numbered ready is. after_gone own nodes node disk letter user marks numbered ready is
