use Rattle.map_rebuild.proofs.AsMachine.{changes}
use Rattle.map_rebuild.proofs.laws.changes_as_the_machine.Goals as goal

pub returns : goal.returns
returns c = λ own node disk user full old new had other sets marks. changes own node disk user full old new had other sets marks
