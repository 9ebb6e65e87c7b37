use Rattle.cluster_world.proofs.Whole.{whole_there}
use Rattle.cluster_world.proofs.world.World.members.Goals as goal

pub members_at-requires : goal.members_at-requires
members_at-requires g c = record { whole = whole_there g.D.Disk.seen c.args.self.now.nodes c.requires.ready c.args.node c.in-Some.life.now c.in-Some.ensures }
