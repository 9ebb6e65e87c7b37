use Rattle.std.proofs.Common.{refl}
use Rattle.std.proofs.lemmas.Option.{slice_get_read}
use Rattle.node_store.specs.Disks.{view_of}
use Rattle.cluster_world.proofs.Befallen.{one_more_noted}
use Rattle.cluster_world.proofs.mishaps.note_all.Goals as goal

pub loop-letter-preserved : goal.loop-letter-preserved
loop-letter-preserved g c = record {
  noted = one_more_noted (view_of g.D.Disk.seen g.D.Disk.faults g.D.Disk.clock) _ _ c.loop-letter.letter-index c.letter-item.result _ _ _
      (slice_get_read _ _ _ _ refl c.loop-letter-test.true c.letter-item.is) c.loop-letter.invariant.noted c.note_in.ensures;
}
