use Rattle.std.proofs.Common.{◌-◌, length}
use Rattle.cluster_world.proofs.nodes.Nodes.+unsettled.Given as goal

abbrev pub decreases-unsettled : goal.decreases-unsettled
decreases-unsettled g l = length l.self.now.lives.items - l.place
