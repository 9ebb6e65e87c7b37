use Rattle.std.proofs.Common.{◌∙◌, refl}
use Rattle.node_store.specs.Disks.{view_of}
use Rattle.cluster_world.proofs.Handing.{up_works, heard_in}
use Rattle.cluster_world.proofs.steps.post.hear_in.Goals as goal

pub hear_at-requires-clause-up : goal.hear_at-requires-clause-up
hear_at-requires-clause-up g c =
    up_works c.args.nodes.now c.args.letter.now.to c.place_of-place.result (c.place_of-place.ensures ∙ c.receiver_of.ensures) c.requires.up c.index_mut.result.now _ c.index_mut-2.result.now _
    c.index_mut.ensures.value c.index_mut-2.ensures.value g.D.Disk.seen c.requires.works

pub returns-clause-hears : goal.returns-clause-hears
returns-clause-hears g c =
    heard_in c.args.nodes.now c.args.letter.now.to c.place_of-place.result (c.place_of-place.ensures ∙ c.receiver_of.ensures) c.requires.up c.index_mut.result.now _ c.index_mut-2.result.now _
    c.index_mut.ensures.value c.index_mut-2.ensures.value (view_of g.D.Disk.seen g.D.Disk.faults g.D.Disk.clock) g.D.Disk.settled c.args.letter.now c.hear_at.result _ c.hear_at.new.life c.hear_at.new.disk
    c.requires.works refl refl refl c.hear_at.ensures.turns c.hear_at.ensures.settled
