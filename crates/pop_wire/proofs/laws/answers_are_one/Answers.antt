use Rattle.pop_wire.proofs.OneReply.{one_answer}
use Rattle.pop_wire.proofs.laws.answers_are_one.Goals as goal

pub returns : goal.returns
returns c = one_answer
