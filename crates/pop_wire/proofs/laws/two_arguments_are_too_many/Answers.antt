use Rattle.pop_wire.proofs.Meanings.{two_too_many}
use Rattle.pop_wire.proofs.laws.two_arguments_are_too_many.Goals as goal

pub returns : goal.returns
returns c = two_too_many
