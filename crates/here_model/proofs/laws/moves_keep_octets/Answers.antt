use Rattle.here_model.proofs.Keeping.{moves_keep}
use Rattle.here_model.proofs.laws.moves_keep_octets.Goals as goal

pub returns : goal.returns
returns c = λ confirm w moves may s g. moves_keep confirm w moves may s g
