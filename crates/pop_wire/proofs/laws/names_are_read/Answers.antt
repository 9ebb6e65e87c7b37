use Rattle.pop_wire.proofs.Meanings.{names_read}
use Rattle.pop_wire.proofs.laws.names_are_read.Goals as goal

pub returns : goal.returns
returns c = names_read
