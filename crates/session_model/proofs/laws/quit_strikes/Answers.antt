use Rattle.session_model.proofs.Striking.{quit_strikes}
use Rattle.session_model.proofs.laws.quit_strikes.Goals as goal

pub returns : goal.returns
returns c = quit_strikes
