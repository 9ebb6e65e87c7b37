use Rattle.cluster_world.proofs.Whole.{whole_there}
use Rattle.cluster_world.proofs.world.World.filing.Goals as goal

pub filing_in-requires : goal.filing_in-requires
filing_in-requires g c = record { whole = whole_there g.D.Disk.seen c.args.self.now.nodes c.requires.ready c.node_of.result c.in-Some.life.now c.in-Some.ensures }
