use Rattle.mail_map.proofs.Latest.{named_as}
use Rattle.mail_map.proofs.laws.names_as_the_machine.Goals as goal

pub returns : goal.returns
returns c = λ node user members n. named_as node user members n
