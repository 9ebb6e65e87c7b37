use Rattle.joint_world.proofs.Shown.{subject_is_shown}
use Rattle.joint_world.proofs.laws.subject_is_shown.Goals as goal

pub returns : goal.returns
returns c = λ plan tells story old new number subject found made stands about. subject_is_shown plan tells story old new number subject found made stands about
