use Rattle.whole_world.proofs.Projecting.{makes_seen}
use Rattle.whole_world.proofs.laws.mail_sees.Goals as goal

pub returns : goal.returns
returns c = λ plan tells old new step outcome made. makes_seen plan tells old new step outcome made
