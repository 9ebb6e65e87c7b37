use Rattle.object_model.proofs.Merges.{join_is_merge}
use Rattle.object_model.proofs.laws.join_is_merge.Goals as goal

pub returns : goal.returns
returns c = λ states join e. join_is_merge states join e
