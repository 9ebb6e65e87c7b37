use Rattle.whole_world.proofs.FirstDue.{due_are_one}
use Rattle.whole_world.proofs.laws.first_due_are_one.Goals as goal

pub returns : goal.returns
returns c = λ to most node a b p q. due_are_one to most node a b p q
