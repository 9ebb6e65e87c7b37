use Rattle.object_model.proofs.Logs.{leaves_others}
use Rattle.object_model.proofs.laws.leaves_other_keys.Goals as goal

pub returns : goal.returns
returns c = λ own key state by log other apart. leaves_others own key state by log other apart
