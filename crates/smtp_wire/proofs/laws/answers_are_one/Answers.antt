use Rattle.smtp_wire.proofs.OneReply.{one_answer}
use Rattle.smtp_wire.proofs.laws.answers_are_one.Goals as goal

pub returns : goal.returns
returns c = one_answer
