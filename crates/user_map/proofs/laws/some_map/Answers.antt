use Rattle.user_map.proofs.Assigned.{some_map}
use Rattle.user_map.proofs.laws.some_map.Goals as goal

pub returns : goal.returns
returns c = λ claims members buckets epoch some. some_map claims members buckets epoch some
