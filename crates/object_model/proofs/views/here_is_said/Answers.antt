use Rattle.object_model.proofs.views.here_is_said.Goals as goal
use Rattle.object_model.proofs.SaidViews.{here_is_said}

pub returns : goal.returns
returns c = here_is_said
