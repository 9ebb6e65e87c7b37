use Rattle.cluster_model.proofs.Worked.{three_times}
use Rattle.cluster_model.proofs.laws.pushed_three_times.Goals as goal

pub returns : goal.returns
returns c = three_times
