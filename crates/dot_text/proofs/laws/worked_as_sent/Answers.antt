use Rattle.dot_text.proofs.Worked.{is_sent}
use Rattle.dot_text.proofs.laws.worked_as_sent.Goals as goal

pub returns : goal.returns
returns c = is_sent
