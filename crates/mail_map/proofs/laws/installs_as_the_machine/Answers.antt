use Rattle.mail_map.proofs.Keeping.{row_at}
use Rattle.mail_map.proofs.laws.installs_as_the_machine.Goals as goal

pub returns : goal.returns
returns c = λ own node disk membership names n boot user untold. row_at own node membership n boot user disk names untold
