use Rattle.joint_world.proofs.Told.{listed_kept}
use Rattle.joint_world.proofs.laws.listed_is_kept.Goals as goal

pub returns : goal.returns
returns c = λ plan tells story w stands number one r named waiting told stage list inside item m. listed_kept plan tells story w stands number one r named waiting told stage list inside item m
