use Rattle.joint_world.proofs.Single.{puts_keep}
use Rattle.joint_world.proofs.laws.puts_keep_whole.Goals as goal

pub returns : goal.returns
returns c = λ tells fuel queue w new e. puts_keep tells fuel queue w new e
