use Rattle.std.proofs.Common.{◌≡◌, ap, subst, ◌∙◌}
use Rattle.cluster_world.proofs.Whole.{reads_there}
use Rattle.cluster_world.proofs.world.World.kind.Goals as goal

pub kind_at-requires : goal.kind_at-requires
kind_at-requires g c = record { reads = λ node is. let r = reads_there g.D.Disk.seen c.args.self.now.nodes c.requires.ready c.node_of.result c.in-Some.life.now c.in-Some.ensures node is in (r.0, r.1 ∙ c.node_of.ensures) }
