use Rattle.object_model.proofs.Merges.{gone_stays}
use Rattle.object_model.proofs.laws.gone_stays.Goals as goal

pub returns : goal.returns
returns c = λ user id a b ka kb gone. gone_stays user id a b ka kb gone
