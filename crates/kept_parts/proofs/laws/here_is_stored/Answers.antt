use Rattle.kept_parts.proofs.Both.{stored}
use Rattle.kept_parts.proofs.laws.here_is_stored.Goals as goal

pub returns : goal.returns
returns c = λ plan tells steps w few made n slot here user id state says is. stored plan few tells steps w made n slot here user id state says is
