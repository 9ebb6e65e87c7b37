use Rattle.node_store.specs.Disks.{view_of}
use Rattle.drive_tape.proofs.Settles.{map_done}
use Rattle.drive_tape.proofs.resting.maps.Goals as goal

pub returns : goal.returns
returns g c = record {
  moved = λ start outcomes awaited been fit. map_done (view_of g.D.Disk.seen g.D.Disk.faults g.D.Disk.clock) start c.args.world.now outcomes awaited been c.args.user c.maps-told.result fit c.maps-told.ensures;
}
