use Rattle.joint_world.proofs.Ending.{puts_end}
use Rattle.joint_world.proofs.laws.puts_end.Goals as goal

pub returns : goal.returns
returns c = λ tells number queue w of. puts_end tells number queue w of
