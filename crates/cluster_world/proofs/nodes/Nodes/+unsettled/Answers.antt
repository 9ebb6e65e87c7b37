use Rattle.std.proofs.Common.{◌<◌, length, rules}
use Rattle.cluster_world.proofs.Whole.{own_at}
use Rattle.cluster_world.proofs.nodes.Nodes.+unsettled.Goals as goal

pub is_unsettled-requires : goal.is_unsettled-requires
is_unsettled-requires g t c =
    let within : c.args.place < length c.args.self.now.lives.items = search rules in
    let read = rw c.deref.ensures.value at c.in_ok-life.ensures.lookup in
    record { own = own_at g.D.Disk.seen c.args.self.now c.requires.ready c.args.place c.in_ok-life.life.now within read.1 c.node_at-node.result c.node_at-node.ensures }
