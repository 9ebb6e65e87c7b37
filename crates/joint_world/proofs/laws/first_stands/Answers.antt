use Rattle.joint_world.proofs.Opening.{first_all_stand}
use Rattle.joint_world.proofs.laws.first_stands.Goals as goal

pub returns : goal.returns
returns c = λ plan tells rows some few managed. first_all_stand plan tells rows some few managed
