use Rattle.worked_sessions.proofs.OneMessage.{one_message_kept}
use Rattle.worked_sessions.proofs.laws.one_message_kept.Goals as goal

pub returns : goal.returns
returns c = one_message_kept
