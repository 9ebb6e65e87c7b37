use Rattle.std.proofs.Common.{length}
use Rattle.cluster_world.proofs.nodes.Nodes.+absent_since.Given as goal

abbrev pub decreases-absent_since : goal.decreases-absent_since
decreases-absent_since g l = length l.members.now
