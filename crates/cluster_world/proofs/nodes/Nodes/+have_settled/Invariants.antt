use Rattle.std.proofs.Common.{length}
use Rattle.cluster_world.proofs.nodes.Nodes.+have_settled.Given as goal

abbrev pub decreases-have_settled : goal.decreases-have_settled
decreases-have_settled g l = length l.members.now
