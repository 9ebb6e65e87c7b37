use Rattle.cluster_model.proofs.Ruled.{ids_new}
use Rattle.cluster_model.proofs.laws.ids_are_new.Goals as goal

pub returns : goal.returns
returns c = λ confirm w sound own node disk here id is. ids_new confirm w sound own node disk here id is
