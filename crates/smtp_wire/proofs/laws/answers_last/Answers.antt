use Rattle.smtp_wire.proofs.OneReply.{answers_last}
use Rattle.smtp_wire.proofs.laws.answers_last.Goals as goal

pub returns : goal.returns
returns c = answers_last
