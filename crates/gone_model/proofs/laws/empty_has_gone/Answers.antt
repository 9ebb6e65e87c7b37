use Rattle.gone_model.proofs.Keeping.{empty_has}
use Rattle.gone_model.proofs.laws.empty_has_gone.Goals as goal

pub returns : goal.returns
returns c = λ nodes w none still. empty_has nodes w none still
