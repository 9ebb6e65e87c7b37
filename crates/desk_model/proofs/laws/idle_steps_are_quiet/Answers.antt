use Rattle.desk_model.proofs.Begun.{idle_steps_are_quiet}
use Rattle.desk_model.proofs.laws.idle_steps_are_quiet.Goals as goal

pub returns : goal.returns
returns c = idle_steps_are_quiet
