use Rattle.settled_logins.proofs.Parts.{parts_stay}
use Rattle.settled_logins.proofs.laws.joint_steps_keep_parts.Goals as goal

pub returns : goal.returns
returns c = parts_stay
