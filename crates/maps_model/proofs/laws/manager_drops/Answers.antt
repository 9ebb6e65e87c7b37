use Rattle.maps_model.proofs.RowLaws.{manager_drops as law}
use Rattle.maps_model.proofs.laws.manager_drops.Goals as goal

pub returns : goal.returns
returns c = law
