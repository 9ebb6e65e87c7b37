use Rattle.object_model.proofs.Merges.{one_join}
use Rattle.object_model.proofs.laws.one_join.Goals as goal

pub returns : goal.returns
returns c = λ some others same. one_join some others same
