use Rattle.map_rebuild.proofs.AsMachine.{tells}
use Rattle.map_rebuild.proofs.laws.tells_as_the_machine.Goals as goal

pub returns : goal.returns
returns c = λ own node disk user full old mid new had mine free sets marks keeps clears. tells own node disk user full old mid new had mine free sets marks keeps clears
