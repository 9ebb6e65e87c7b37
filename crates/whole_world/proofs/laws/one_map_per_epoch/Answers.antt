use Rattle.whole_world.proofs.Settling.{one_map_per_epoch as law}
use Rattle.whole_world.proofs.laws.one_map_per_epoch.Goals as goal

pub returns : goal.returns
returns c = λ plan w s a b x y e. law plan w s a b x y e
