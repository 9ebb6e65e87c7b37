use Rattle.maps_model.proofs.RoundLaws.{members_enter as law}
use Rattle.maps_model.proofs.laws.members_enter.Goals as goal

pub returns : goal.returns
returns c = law
