use Rattle.object_model.proofs.Merges.{associated}
use Rattle.object_model.proofs.laws.joins_associate.Goals as goal

pub returns : goal.returns
returns c = λ a b c. associated a b c
