use Rattle.std.proofs.Common.{ap, ◌∙◌}
use Rattle.node_store.specs.Disks.{view_of}
use Rattle.world_book.specs.Books.{entries_of}
use Rattle.cluster_world.proofs.FirstBoots.{opened_world}
use Rattle.cluster_world.proofs.world.World.open.Goals as goal

pub returns-in-Ok-open_all-clause-opened : goal.returns-in-Ok-open_all-clause-opened
returns-in-Ok-open_all-clause-opened g c =
    let all = c.in-Ok-open_all.ensures in
    let o = c.opened.ensures in
    opened_world (view_of g.D.Disk.seen g.D.Disk.faults g.D.Disk.clock) g.D.Disk.settled g.met.D.Disk.settled_is_only c.args.plan c.open_all.new.lives.items c.args.disks.items c.open_all.new.disks.items all.0 all.1
    c.opened.result o.plan o.lives o.disks o.flights o.sent (ap entries_of o.book ∙ c.in-Ok.ensures.none) o.seconds o.steps (all.1 ∙ c.requires.one_each) c.requires.fit.some
