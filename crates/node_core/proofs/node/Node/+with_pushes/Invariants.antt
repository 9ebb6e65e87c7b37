use Rattle.std.proofs.Common.{length}
use Rattle.node_core.proofs.node.Node.+with_pushes.Given as goal

abbrev pub decreases-with_pushes : goal.decreases-with_pushes
decreases-with_pushes g l = length l.keys.now
