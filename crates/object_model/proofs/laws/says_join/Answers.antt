use Rattle.object_model.proofs.Merges.{says_join}
use Rattle.object_model.proofs.laws.says_join.Goals as goal

pub returns : goal.returns
returns c = λ key records. says_join key records
