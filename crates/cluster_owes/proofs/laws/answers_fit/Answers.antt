use Rattle.cluster_owes.proofs.Owed.{answers_fit}
use Rattle.cluster_owes.proofs.laws.answers_fit.Goals as goal

pub returns : goal.returns
returns c = answers_fit
