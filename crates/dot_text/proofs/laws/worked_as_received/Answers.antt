use Rattle.dot_text.proofs.Worked.{is_received}
use Rattle.dot_text.proofs.laws.worked_as_received.Goals as goal

pub returns : goal.returns
returns c = is_received
