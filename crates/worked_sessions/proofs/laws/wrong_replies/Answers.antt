use Rattle.worked_sessions.proofs.WrongReplies.{wrong_replies}
use Rattle.worked_sessions.proofs.laws.wrong_replies.Goals as goal

pub returns : goal.returns
returns c = wrong_replies
