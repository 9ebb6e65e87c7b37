use Rattle.joint_world.proofs.Standing.{all_stand}
use Rattle.joint_world.proofs.laws.steps_keep.Goals as goal

pub returns : goal.returns
returns c = λ plan tells old new steps story made stands. all_stand plan tells old new steps story made stands
