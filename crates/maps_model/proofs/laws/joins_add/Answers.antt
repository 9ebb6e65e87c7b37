use Rattle.maps_model.proofs.RoundLaws.{joins_add as law}
use Rattle.maps_model.proofs.laws.joins_add.Goals as goal

pub returns : goal.returns
returns c = law
