use Rattle.worked_settles.proofs.FreshOwes.{fresh_tape_is_met}
use Rattle.worked_settles.proofs.laws.fresh_tape_is_met.Goals as goal

pub returns : goal.returns
returns c = fresh_tape_is_met
