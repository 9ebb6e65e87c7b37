use Rattle.whole_world.proofs.InFirst.{first_stands}
use Rattle.whole_world.proofs.laws.first_stands.Goals as goal

pub returns : goal.returns
returns c = λ plan map some few managers. first_stands plan map some few managers
