use Rattle.object_model.proofs.Merges.{repeated}
use Rattle.object_model.proofs.laws.joins_repeat.Goals as goal

pub returns : goal.returns
returns c = λ a. repeated a
