use Rattle.maps_model.proofs.RoundLaws.{nodes_join as law}
use Rattle.maps_model.proofs.laws.nodes_join.Goals as goal

pub returns : goal.returns
returns c = law
