use Rattle.session_model.proofs.Replies.{each_answer_has_reply}
use Rattle.session_model.proofs.laws.each_answer_has_reply.Goals as goal

pub returns : goal.returns
returns c = each_answer_has_reply
