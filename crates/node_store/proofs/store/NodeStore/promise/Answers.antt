use Rattle.std.proofs.Common.{refl, arith}
use Rattle.node_store.specs.Disks.{view_of}
use Rattle.node_store.proofs.Silent.{promise_done}
use Rattle.node_store.proofs.store.NodeStore.promise.Goals as goal

pub returns-clause-wrote : goal.returns-clause-wrote
returns-clause-wrote g c =
    promise_done (view_of g.D.Disk.seen g.D.Disk.faults g.D.Disk.clock) c.args.epoch c.args.self.now _ c.args.disk.now c.record_promise.new.disk
    (record { count = omega (arith, c.well_formed); node = c.requires.node }) c.requires.sound
    refl refl refl refl c.in_ok-record_promise.ensures.written
