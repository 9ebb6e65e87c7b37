use Rattle.standing_model.proofs.Sets.{one_set}
use Rattle.standing_model.proofs.laws.standing_is_one_set.Goals as goal

pub returns : goal.returns
returns c = λ disks members user ids others a b id. one_set disks members user ids others a b id
