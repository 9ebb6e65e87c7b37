use Rattle.node_store.specs.Disks.{view_of}
use Rattle.node_core.proofs.Going.{promising_goes_on}
use Rattle.node_trials.proofs.tests.promises_epoch.Goals as goal

pub returns : goal.returns
returns g c =
    λ up. promising_goes_on (view_of g.D.Disk.seen g.D.Disk.faults g.D.Disk.clock) c.args.node.now c.args.disk.now c.promise.new.self c.promise.new.disk c.requires.works
    c.new.result c.promise.result c.promise.ensures.promises up
