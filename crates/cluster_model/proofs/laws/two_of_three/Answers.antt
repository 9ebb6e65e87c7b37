use Rattle.cluster_model.proofs.Worked.{two_of_three}
use Rattle.cluster_model.proofs.laws.two_of_three.Goals as goal

pub returns : goal.returns
returns c = two_of_three
