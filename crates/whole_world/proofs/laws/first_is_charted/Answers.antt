use Rattle.whole_world.proofs.FirstSettled.{first_charted}
use Rattle.whole_world.proofs.laws.first_is_charted.Goals as goal

pub returns : goal.returns
returns c = λ plan map size some. first_charted plan map size some
