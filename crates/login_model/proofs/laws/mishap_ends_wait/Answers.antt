use Rattle.login_model.proofs.Lost.{reading_over}
use Rattle.login_model.proofs.laws.mishap_ends_wait.Goals as goal

pub returns : goal.returns
returns c = λ u m reading what waits. reading_over u m reading what waits
