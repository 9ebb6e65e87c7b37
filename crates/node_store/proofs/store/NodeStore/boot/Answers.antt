use Rattle.std.proofs.Common.{refl}
use Rattle.node_store.specs.Disks.{view_of}
use Rattle.node_store.proofs.Silent.{boot_done}
use Rattle.node_store.proofs.store.NodeStore.boot.Goals as goal

pub returns-clause-wrote : goal.returns-clause-wrote
returns-clause-wrote g c =
    boot_done (view_of g.D.Disk.seen g.D.Disk.faults g.D.Disk.clock) c.args.boot c.args.self.now _ c.args.disk.now c.record_boot.new.disk (c.requires.drawn, c.ranges.boot.fits) c.requires.sound
    refl refl refl refl c.in_ok-record_boot.ensures.written
