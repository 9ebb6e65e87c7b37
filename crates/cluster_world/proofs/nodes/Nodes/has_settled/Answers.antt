use Rattle.cluster_world.proofs.Whole.{own_there}
use Rattle.cluster_world.proofs.nodes.Nodes.has_settled.Goals as goal

pub is_settled-requires : goal.is_settled-requires
is_settled-requires g c = record { own = own_there g.D.Disk.seen c.args.self.now c.requires.ready c.args.node c.in-Some.life.now c.in-Some.ensures }
