use Rattle.std.proofs.Common.{refl}
use Rattle.node_store.specs.Disks.{view_of}
use Rattle.cluster_world.proofs.BeginParts.{begin_place}
use Rattle.cluster_world.proofs.BeginReads.{reads_changed}
use Rattle.cluster_world.proofs.steps.begin_read.begin_read_in.Goals as goal

pub begin_read_at-requires-clause-up : goal.begin_read_at-requires-clause-up
begin_read_at-requires-clause-up g c =
    begin_place (view_of g.D.Disk.seen g.D.Disk.faults g.D.Disk.clock) c.args.node c.args.call _ c.args.nodes.now c.nodes.view_is c.requires.fit c.requires.works c.place_of-place.result c.place_of-place.ensures
    _ _ _ _ c.index_mut.ensures.value c.index_mut-2.ensures.value

pub returns : goal.returns
returns g c = record {
  begins = reads_changed (view_of g.D.Disk.seen g.D.Disk.faults g.D.Disk.clock) c.args.node c.args.call _ c.args.nodes.now c.nodes.view_is c.requires.fit c.requires.works c.place_of-place.result c.place_of-place.ensures
      c.index_mut.result.now _ c.index_mut-2.result.now _ c.index_mut.ensures.value c.index_mut-2.ensures.value g.D.Disk.settled c.begin_read_at.result c.begin_read_at.new.life c.begin_read_at.new.disk _ refl refl refl
      (c.begin_read_at.ensures.turns _ refl);
}
