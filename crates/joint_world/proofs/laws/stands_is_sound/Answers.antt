use Rattle.joint_world.proofs.Standing.{is_sound}
use Rattle.joint_world.proofs.laws.stands_is_sound.Goals as goal

pub returns : goal.returns
returns c = λ plan tells story w stands. is_sound plan tells story w stands
