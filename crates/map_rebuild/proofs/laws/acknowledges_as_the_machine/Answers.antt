use Rattle.map_rebuild.proofs.AsMachine.{acknowledges}
use Rattle.map_rebuild.proofs.laws.acknowledges_as_the_machine.Goals as goal

pub returns : goal.returns
returns c = λ node disk letter user version result old new had membership installed epoch answer clears keeps. acknowledges node disk letter user version result old new had membership installed epoch answer clears keeps
