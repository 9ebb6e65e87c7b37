use Rattle.node_store.specs.Disks.{view_of}
use Rattle.drive_tape.proofs.Calling.{left_so}
use Rattle.drive_tape.proofs.calls.leave.Goals as goal

pub returns-clause-left : goal.returns-clause-left
returns-clause-left g c start outcomes awaited k user leave at =
    left_so (view_of g.D.Disk.seen g.D.Disk.faults g.D.Disk.clock) start c.args.world.now c.step-said.new.self outcomes awaited k at c.args.node c.args.call user c.step-said.result c.noted.result c.noted.ensures leave c.step-said.ensures.is
