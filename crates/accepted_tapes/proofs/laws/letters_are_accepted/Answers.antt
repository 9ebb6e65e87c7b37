use Rattle.accepted_tapes.proofs.Accepts.{letters_accepted}
use Rattle.accepted_tapes.proofs.laws.letters_are_accepted.Goals as goal

pub returns : goal.returns
returns c = letters_accepted
