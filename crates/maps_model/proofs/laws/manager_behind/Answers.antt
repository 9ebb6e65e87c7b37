use Rattle.maps_model.proofs.RowLaws.{manager_behind as law}
use Rattle.maps_model.proofs.laws.manager_behind.Goals as goal

pub returns : goal.returns
returns c = law
