use Rattle.session_model.proofs.Moves.{hears_next}
use Rattle.session_model.proofs.laws.hears_next.Goals as goal

pub returns : goal.returns
returns c = hears_next
