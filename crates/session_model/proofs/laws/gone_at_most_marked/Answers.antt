use Rattle.session_model.proofs.Counting.{gone_at_most_marked}
use Rattle.session_model.proofs.laws.gone_at_most_marked.Goals as goal

pub returns : goal.returns
returns c = gone_at_most_marked
