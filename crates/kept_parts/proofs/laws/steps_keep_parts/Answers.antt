use Rattle.kept_parts.proofs.Both.{whole_all}
use Rattle.kept_parts.proofs.laws.steps_keep_parts.Goals as goal

pub returns : goal.returns
returns c = λ plan tells old new steps few made stands p. whole_all plan few tells old new steps made stands p
