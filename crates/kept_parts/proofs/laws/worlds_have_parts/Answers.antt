use Rattle.kept_parts.proofs.Both.{worlds_have}
use Rattle.kept_parts.proofs.laws.worlds_have_parts.Goals as goal

pub returns : goal.returns
returns c = λ plan tells steps w few made. worlds_have plan few tells steps w made
