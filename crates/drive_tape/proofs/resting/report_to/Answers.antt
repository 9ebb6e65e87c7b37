use Rattle.node_store.specs.Disks.{view_of}
use Rattle.drive_tape.proofs.Reports.{reported_so}
use Rattle.drive_tape.proofs.resting.report_to.Goals as goal

pub returns-clause-reported : goal.returns-clause-reported
returns-clause-reported g c = reported_so (view_of g.D.Disk.seen g.D.Disk.faults g.D.Disk.clock) c.args.from c.args.to c.step-said.result c.sent.result c.args.world.now c.step-said.new.self c.sent.ensures.sent c.step-said.ensures.is
