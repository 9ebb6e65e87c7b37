use Rattle.joint_world.proofs.Standing.{pending_flies}
use Rattle.joint_world.proofs.laws.pending_has_letter.Goals as goal

pub returns : goal.returns
returns c = λ plan tells story w stands number one got wanted e. pending_flies plan tells story w stands number one got wanted e
