use Rattle.std.proofs.Common.{sym, ◌∙◌, refl}
use Rattle.node_store.specs.Disks.{view_of}
use Rattle.node_tickets.specs.Seen.{kind_of_mishap}
use Rattle.cluster_world.proofs.ReadMishaps.{all_have_reads, has_befallen}
use Rattle.cluster_world.proofs.befalling.befall_in.Goals as goal

pub befall-requires : goal.befall-requires
befall-requires g c = record { reads = all_have_reads g.D.Disk.seen c.args.nodes.now.plan c.args.nodes.now.lives.items c.args.nodes.now.disks.items (c.args.nodes.now.disk_each ∙ sym c.args.nodes.now.all) c.requires.works }

pub returns-clause-befallen : goal.returns-clause-befallen
returns-clause-befallen g c = has_befallen (view_of g.D.Disk.seen g.D.Disk.faults g.D.Disk.clock) c.args.nodes.now.plan (kind_of_mishap c.args.kind) c.args.letter.now c.befall.result c.args.nodes.now _ c.requires.works refl refl
    (c.args.nodes.now.disk_each ∙ sym c.args.nodes.now.all) c.befall.ensures
