use Rattle.smtp_wire.proofs.OneReply.{one_reply}
use Rattle.smtp_wire.proofs.laws.replies_are_one.Goals as goal

pub returns : goal.returns
returns c = one_reply
