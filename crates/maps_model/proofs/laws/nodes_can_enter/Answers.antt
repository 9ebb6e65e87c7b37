use Rattle.maps_model.proofs.CanEnter.{can_enter}
use Rattle.maps_model.proofs.laws.nodes_can_enter.Goals as goal

pub returns : goal.returns
returns c = λ own node disk membership names. can_enter own node disk membership names
