use Rattle.maps_model.proofs.RowLaws.{manager_ahead as law}
use Rattle.maps_model.proofs.laws.manager_ahead.Goals as goal

pub returns : goal.returns
returns c = law
