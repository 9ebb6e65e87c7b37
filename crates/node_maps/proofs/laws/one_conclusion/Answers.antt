use Rattle.node_maps.proofs.Conclusions.{one_conclusion}
use Rattle.node_maps.proofs.laws.one_conclusion.Goals as goal

pub returns : goal.returns
returns c = one_conclusion
