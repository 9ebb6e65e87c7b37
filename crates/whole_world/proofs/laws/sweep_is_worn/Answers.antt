use Rattle.whole_world.proofs.Sweeping.{push_worn, report_worn}
use Rattle.whole_world.proofs.laws.sweep_is_worn.Goals as goal

pub returns : goal.returns
returns c = λ plan w still from to f t node disk up. (push_worn plan w still from to f t node disk up, report_worn plan w still from to f t node disk up)
