use Rattle.joint_world.proofs.SameStep.{makes_same}
use Rattle.joint_world.proofs.laws.whole_sees.Goals as goal

pub returns : goal.returns
returns c = λ plan tells story old new step outcome made stands. makes_same plan tells story old stands step outcome new made
