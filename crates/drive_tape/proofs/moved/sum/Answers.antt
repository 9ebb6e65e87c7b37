use Rattle.std.proofs.Common.{[], refl}
use Rattle.mail_model.specs.Tape.{ClusterOrder as order}
use Rattle.node_store.specs.Disks.{view_of}
use Rattle.drive_tape.specs.declared.event.ClusterEvent.TheVariants.{HasSummed}
use Rattle.drive_tape.proofs.Stepping.{happens_calm}
use Rattle.drive_tape.proofs.moved.sum.Goals as goal

pub returns : goal.returns
returns g c = record {
  moved = λ start outcomes awaited been fit.
      happens_calm (view_of g.D.Disk.seen g.D.Disk.faults g.D.Disk.clock) start c.args.world.now outcomes awaited been order.Sum fit c.args.world.now [] (HasSummed c.sum.result) (refl, refl) tt (refl, c.sum.ensures) refl tt
      (λ n was. refl) (λ n among. absurd among);
}
