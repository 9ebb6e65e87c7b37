use Rattle.worked_settles.proofs.RegroupedEnd.{regrouped_tape_is_met}
use Rattle.worked_settles.proofs.laws.regrouped_tape_is_met.Goals as goal

pub returns : goal.returns
returns c = regrouped_tape_is_met
