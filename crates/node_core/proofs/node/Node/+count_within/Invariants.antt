use Rattle.std.proofs.Common.{length}
use Rattle.node_core.proofs.node.Node.+count_within.Given as goal

abbrev pub decreases-count_within : goal.decreases-count_within
decreases-count_within l = length l.keys.now
