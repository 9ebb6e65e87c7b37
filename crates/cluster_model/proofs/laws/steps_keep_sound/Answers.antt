use Rattle.cluster_model.proofs.Running.{steps_sound}
use Rattle.cluster_model.proofs.laws.steps_keep_sound.Goals as goal

pub returns : goal.returns
returns c = λ plan tells old new steps made in_plan sound. steps_sound plan tells old new steps made in_plan sound
