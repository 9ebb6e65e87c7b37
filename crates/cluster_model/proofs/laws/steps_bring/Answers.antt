use Rattle.cluster_model.proofs.Running.{steps_bring}
use Rattle.cluster_model.proofs.laws.steps_bring.Goals as goal

pub returns : goal.returns
returns c = λ plan tells old new step outcome made in_plan sound id octets held. steps_bring plan tells old new step outcome made in_plan sound id octets held
