use Rattle.std.proofs.Common.{refl}
use Rattle.node_store.specs.Disks.{view_of}
use Rattle.cluster_world.proofs.BeginParts.{begin_place, begin_changed}
use Rattle.cluster_world.proofs.steps.begin.begin_in.Goals as goal

pub begin_at-requires : goal.begin_at-requires
begin_at-requires g c =
    record {
      up = begin_place (view_of g.D.Disk.seen g.D.Disk.faults g.D.Disk.clock) c.args.node c.args.call c.args.nodes.now c.args.nodes.now refl c.requires.fit c.requires.works c.place_of-place.result c.place_of-place.ensures
          _ _ _ _ c.index_mut.ensures.value c.index_mut-2.ensures.value;
      mail = c.requires.mail;
      ended = c.requires.ended;
    }

pub returns-clause-begins : goal.returns-clause-begins
returns-clause-begins g c =
    begin_changed (view_of g.D.Disk.seen g.D.Disk.faults g.D.Disk.clock) c.args.node c.args.call c.args.nodes.now c.args.nodes.now refl c.requires.fit c.requires.works c.place_of-place.result c.place_of-place.ensures
    c.index_mut.result.now _ c.index_mut-2.result.now _ c.index_mut.ensures.value c.index_mut-2.ensures.value g.D.Disk.settled c.args.seconds c.begin_at.result c.begin_at.new.life c.begin_at.new.disk _ refl refl refl
    c.requires.ended c.begin_at.ensures.turns c.begin_at.ensures.settled
