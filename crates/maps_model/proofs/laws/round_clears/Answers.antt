use Rattle.maps_model.proofs.RoundLaws.{round_clears as law}
use Rattle.maps_model.proofs.laws.round_clears.Goals as goal

pub returns : goal.returns
returns c = law
