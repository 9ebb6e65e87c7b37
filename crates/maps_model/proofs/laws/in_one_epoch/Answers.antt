use Rattle.maps_model.proofs.RowLaws.{in_one_epoch as law}
use Rattle.maps_model.proofs.laws.in_one_epoch.Goals as goal

pub returns : goal.returns
returns c = law
