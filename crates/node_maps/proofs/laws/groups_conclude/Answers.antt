use Rattle.node_maps.proofs.Conclusions.{groups_conclude}
use Rattle.node_maps.proofs.laws.groups_conclude.Goals as goal

pub returns : goal.returns
returns c = groups_conclude
