use Rattle.pop_wire.proofs.Meanings.{blanks_mean_nothing}
use Rattle.pop_wire.proofs.laws.blanks_at_end_mean_nothing.Goals as goal

pub returns : goal.returns
returns c = blanks_mean_nothing
