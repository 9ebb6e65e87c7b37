use Rattle.pop_wire.proofs.Meanings.{numbers_read}
use Rattle.pop_wire.proofs.laws.numbers_are_read.Goals as goal

pub returns : goal.returns
returns c = numbers_read
