use Rattle.joint_world.proofs.Subjects.{subject_stays}
use Rattle.joint_world.proofs.laws.subject_stays.Goals as goal

pub returns : goal.returns
returns c = λ plan tells story old new step outcome number subject made stands about. subject_stays plan tells story old new step outcome number subject made stands about
