use Rattle.whole_world.proofs.FirstDue.{found_due}
use Rattle.whole_world.proofs.laws.first_due_are_found.Goals as goal

pub returns : goal.returns
returns c = λ to most node users marked. found_due to most node users marked
