use Rattle.object_model.proofs.Merges.{commuted}
use Rattle.object_model.proofs.laws.joins_commute.Goals as goal

pub returns : goal.returns
returns c = λ a b. commuted a b
