use Rattle.login_model.proofs.Beside.{beside_sound}
use Rattle.login_model.proofs.laws.beside_keeps_sound.Goals as goal

pub returns : goal.returns
returns c = λ old new b s. beside_sound old new b s
