use Rattle.cluster_model.proofs.Merged.{twice}
use Rattle.cluster_model.proofs.laws.takes_nothing_twice.Goals as goal

pub returns : goal.returns
returns c = λ own updates store. twice own updates store
