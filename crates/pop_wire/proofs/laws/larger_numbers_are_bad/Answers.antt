use Rattle.pop_wire.proofs.Meanings.{larger_are_bad}
use Rattle.pop_wire.proofs.laws.larger_numbers_are_bad.Goals as goal

pub returns : goal.returns
returns c = larger_are_bad
