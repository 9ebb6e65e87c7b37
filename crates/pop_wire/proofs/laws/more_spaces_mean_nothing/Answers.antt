use Rattle.pop_wire.proofs.Meanings.{spaces_mean_nothing}
use Rattle.pop_wire.proofs.laws.more_spaces_mean_nothing.Goals as goal

pub returns : goal.returns
returns c = spaces_mean_nothing
