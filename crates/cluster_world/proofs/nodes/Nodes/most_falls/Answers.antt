use Rattle.std.proofs.Common.{arith}
use Rattle.cluster_world.proofs.Turned.{most_falls}
use Rattle.cluster_world.proofs.nodes.Nodes.most_falls.Goals as goal

pub returns-clause-most : goal.returns-clause-most
returns-clause-most g c = omega (arith, most_falls c.args.self.now.lives.items)
