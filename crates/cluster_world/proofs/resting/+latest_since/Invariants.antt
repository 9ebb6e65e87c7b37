use Rattle.std.proofs.Common.{length}
use Rattle.cluster_world.proofs.resting.+latest_since.Given as goal

abbrev pub decreases-latest_since : goal.decreases-latest_since
decreases-latest_since l = length l.lives.now
