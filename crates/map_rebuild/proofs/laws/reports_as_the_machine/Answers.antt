use Rattle.map_rebuild.proofs.AsMachine.{reports_due}
use Rattle.map_rebuild.proofs.laws.reports_as_the_machine.Goals as goal

pub returns : goal.returns
returns c = λ own to most node disk reports membership had installed other. reports_due own to most node disk reports membership had installed other
