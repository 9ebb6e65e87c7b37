use Rattle.std.proofs.Common.{◌∙◌, refl}
use Rattle.node_store.specs.Disks.{view_of}
use Rattle.cluster_world.proofs.ReadPosting.{heard_read_lent, up_works_lent}
use Rattle.cluster_world.proofs.steps.post_read.hear_read_in.Goals as goal

pub hear_read_at-requires-clause-up : goal.hear_read_at-requires-clause-up
hear_read_at-requires-clause-up g c =
    up_works_lent _ c.args.nodes.now c.nodes.view_is c.args.letter.now.to c.place_of-place.result (c.place_of-place.ensures ∙ c.receiver_of.ensures) c.requires.up c.index_mut.result.now _ c.index_mut-2.result.now _
    c.index_mut.ensures.value c.index_mut-2.ensures.value g.D.Disk.seen c.requires.works

pub returns : goal.returns
returns g c = record {
  hears = heard_read_lent _ c.args.nodes.now c.nodes.view_is c.args.letter.now.to c.place_of-place.result (c.place_of-place.ensures ∙ c.receiver_of.ensures) c.requires.up c.index_mut.result.now _ c.index_mut-2.result.now _
      c.index_mut.ensures.value c.index_mut-2.ensures.value (view_of g.D.Disk.seen g.D.Disk.faults g.D.Disk.clock) g.D.Disk.settled c.args.letter.now c.hear_read_at.result _ c.hear_read_at.new.life c.hear_read_at.new.disk
      c.requires.works refl refl refl c.hear_read_at.ensures.turns c.hear_read_at.ensures.settled;
}
