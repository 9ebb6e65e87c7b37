use Rattle.cluster_model.proofs.Merging.{step_merges}
use Rattle.cluster_model.proofs.laws.steps_say_merge.Goals as goal

pub returns : goal.returns
returns c = λ plan tells old new step said made whole. step_merges plan tells old new step said made.1 whole
