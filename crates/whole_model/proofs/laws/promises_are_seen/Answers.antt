use Rattle.whole_model.proofs.Following.{after_promise}
use Rattle.whole_model.proofs.laws.promises_are_seen.Goals as goal

pub returns : goal.returns
returns c = λ disk epoch. after_promise disk epoch
