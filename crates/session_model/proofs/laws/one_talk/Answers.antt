use Rattle.session_model.proofs.OneTalk.{one_talk}
use Rattle.session_model.proofs.laws.one_talk.Goals as goal

pub returns : goal.returns
returns c = one_talk
