use Rattle.joint_world.proofs.Single.{rules_send_for_one}
use Rattle.joint_world.proofs.laws.rules_send_for_one.Goals as goal

pub returns : goal.returns
returns c = rules_send_for_one
