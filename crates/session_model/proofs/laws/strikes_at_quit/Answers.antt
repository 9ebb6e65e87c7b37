use Rattle.session_model.proofs.Striking.{strikes_at_quit}
use Rattle.session_model.proofs.laws.strikes_at_quit.Goals as goal

pub returns : goal.returns
returns c = strikes_at_quit
