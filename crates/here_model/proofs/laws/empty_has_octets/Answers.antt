use Rattle.here_model.proofs.Keeping.{empty_has}
use Rattle.here_model.proofs.laws.empty_has_octets.Goals as goal

pub returns : goal.returns
returns c = λ w none still. empty_has w none still
