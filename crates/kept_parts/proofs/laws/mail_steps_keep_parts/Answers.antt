use Rattle.kept_parts.proofs.Both.{mail_all}
use Rattle.kept_parts.proofs.laws.mail_steps_keep_parts.Goals as goal

pub returns : goal.returns
returns c = λ plan tells old new steps few made in_plan sound p. mail_all plan few tells old new steps made in_plan sound p
