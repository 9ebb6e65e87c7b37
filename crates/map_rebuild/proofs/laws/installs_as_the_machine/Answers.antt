use Rattle.map_rebuild.proofs.AsMachine.{installs}
use Rattle.map_rebuild.proofs.laws.installs_as_the_machine.Goals as goal

pub returns : goal.returns
returns c = λ own node disk membership buckets told old mid new had marks tells named mine all user. installs own node disk membership buckets told old mid new had marks tells named mine all user
