use Rattle.std.proofs.Common.{◌∙◌}
use Rattle.node_store.specs.Disks.{view_of}
use Rattle.cluster_world.proofs.FirstBoots.{next_opened, next_short}
use Rattle.cluster_world.proofs.opening.open_next.Goals as goal

pub returns-in_default : goal.returns-in_default
returns-in_default g c =
    next_short (view_of g.D.Disk.seen g.D.Disk.faults g.D.Disk.clock) g.D.Disk.settled c.args.plan.now c.args.lives.now.items c.push.new.self.items c.args.disks.now.items c.len-place.result c.index_mut.result.now _ c.open_node.new.disk
    (c.len-place.ensures ∙ c.args.lives.now.ok.0) c.requires.next c.index_mut.ensures.value c.in_ok-life.ensures.told c.in_ok-life.ensures.later

pub returns : goal.returns
returns g c =
    next_opened (view_of g.D.Disk.seen g.D.Disk.faults g.D.Disk.clock) g.D.Disk.settled c.args.plan.now c.args.lives.now.items c.push.new.self.items c.args.disks.now.items c.len-place.result c.index_mut.result.now _ c.open_node.new.disk
    (c.len-place.ensures ∙ c.args.lives.now.ok.0) c.requires.next c.index_mut.ensures.value c.in_ok-life.ensures.told c.in_ok-life.ensures.later
    c.node_at.result c.in_ok-life.life c.node_at.ensures c.in_ok-life.ensures.so c.in-Ok.ensures.items
