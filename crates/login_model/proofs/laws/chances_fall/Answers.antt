use Rattle.login_model.proofs.Chances.{chances_fall}
use Rattle.login_model.proofs.laws.chances_fall.Goals as goal

pub returns : goal.returns
returns c = λ u at reading. chances_fall u at reading
