use Rattle.session_model.proofs.Telling.{quit_was_sent}
use Rattle.session_model.proofs.laws.quit_was_sent.Goals as goal

pub returns : goal.returns
returns c = quit_was_sent
