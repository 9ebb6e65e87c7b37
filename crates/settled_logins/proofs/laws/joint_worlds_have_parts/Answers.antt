use Rattle.settled_logins.proofs.Parts.{worlds_have_parts}
use Rattle.settled_logins.proofs.laws.joint_worlds_have_parts.Goals as goal

pub returns : goal.returns
returns c = worlds_have_parts
