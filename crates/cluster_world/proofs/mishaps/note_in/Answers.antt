use Rattle.std.proofs.Common.{sym, ◌∙◌, refl}
use Rattle.node_store.specs.Disks.{view_of}
use Rattle.node_tickets.specs.Seen.{kind_of_mishap}
use Rattle.cluster_world.proofs.Befallen.{all_whole, letter_noted}
use Rattle.cluster_world.proofs.mishaps.note_in.Goals as goal

pub note-requires : goal.note-requires
note-requires g c = record { whole = all_whole g.D.Disk.seen c.args.nodes.now.plan c.args.nodes.now.lives.items c.args.nodes.now.disks.items (c.args.nodes.now.disk_each ∙ sym c.args.nodes.now.all) c.requires.works }

pub returns : goal.returns
returns g c = letter_noted (view_of g.D.Disk.seen g.D.Disk.faults g.D.Disk.clock) c.args.nodes.now.plan (kind_of_mishap c.args.kind) c.args.letter.now c.args.nodes.now _ c.requires.works refl refl
    (c.args.nodes.now.disk_each ∙ sym c.args.nodes.now.all) c.note.ensures
