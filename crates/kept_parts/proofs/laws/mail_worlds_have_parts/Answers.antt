use Rattle.kept_parts.proofs.Both.{mail_worlds}
use Rattle.kept_parts.proofs.laws.mail_worlds_have_parts.Goals as goal

pub returns : goal.returns
returns c = λ plan tells map steps w few made. mail_worlds plan few tells map steps w made
