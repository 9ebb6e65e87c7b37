use Rattle.cluster_model.proofs.Midst.{keep_in_midst}
use Rattle.cluster_model.proofs.laws.steps_keep_in_midst.Goals as goal

pub returns : goal.returns
returns c = λ plan tells old new step outcome made p s. keep_in_midst plan tells old new step outcome made p s
