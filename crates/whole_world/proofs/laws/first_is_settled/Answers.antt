use Rattle.whole_world.proofs.FirstSettled.{first_settled}
use Rattle.whole_world.proofs.laws.first_is_settled.Goals as goal

pub returns : goal.returns
returns c = λ plan map. first_settled plan map
