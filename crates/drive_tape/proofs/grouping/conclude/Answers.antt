use Rattle.node_store.specs.Disks.{view_of}
use Rattle.drive_tape.proofs.Forming.{conclude_done}
use Rattle.drive_tape.proofs.grouping.conclude.Goals as goal

pub returns-clause-moved : goal.returns-clause-moved
returns-clause-moved g c start outcomes awaited been fit =
    conclude_done (view_of g.D.Disk.seen g.D.Disk.faults g.D.Disk.clock) start c.args.world.now outcomes awaited been c.args.node fit c.step-said.new.self c.step-said.result c.formed.result c.formed.ensures.forms c.step-said.ensures.is
