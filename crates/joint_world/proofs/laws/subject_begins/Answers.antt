use Rattle.joint_world.proofs.Subjects.{subject_begins}
use Rattle.joint_world.proofs.laws.subject_begins.Goals as goal

pub returns : goal.returns
returns c = λ plan tells story old new n call number subject made stands about. subject_begins plan tells story old new n call number subject made stands about
