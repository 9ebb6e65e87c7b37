use Rattle.joint_world.proofs.Told.{part_kept}
use Rattle.joint_world.proofs.laws.part_is_kept.Goals as goal

pub returns : goal.returns
returns c = λ plan tells story w stands number one r by octets whole stage. part_kept plan tells story w stands number one r by octets whole stage
