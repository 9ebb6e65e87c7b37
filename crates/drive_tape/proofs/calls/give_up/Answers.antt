use Rattle.node_store.specs.Disks.{view_of}
use Rattle.drive_tape.proofs.Calling.{gave_up_so}
use Rattle.drive_tape.proofs.calls.give_up.Goals as goal

pub returns-clause-gave_up : goal.returns-clause-gave_up
returns-clause-gave_up g c start outcomes awaited k asked among at =
    gave_up_so (view_of g.D.Disk.seen g.D.Disk.faults g.D.Disk.clock) start c.args.world.now c.step-said.new.self outcomes awaited k at asked c.args.open_call.now.ticket c.step-said.result c.done.result c.done.ensures.done among c.step-said.ensures.is
