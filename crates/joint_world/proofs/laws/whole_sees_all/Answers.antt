use Rattle.joint_world.proofs.Standing.{all_same}
use Rattle.joint_world.proofs.laws.whole_sees_all.Goals as goal

pub returns : goal.returns
returns c = λ plan tells story old new steps made stands. all_same plan tells story old new steps made stands
