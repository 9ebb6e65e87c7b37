use Rattle.object_model.proofs.views.gone_is_said.Goals as goal
use Rattle.object_model.proofs.SaidViews.{gone_is_said}

pub returns : goal.returns
returns c = gone_is_said
