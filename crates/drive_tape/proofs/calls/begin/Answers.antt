use Rattle.node_store.specs.Disks.{view_of}
use Rattle.drive_tape.specs.Kinds.{IsKindOf}
use Rattle.drive_tape.proofs.Calling.{handed_on}
use Rattle.drive_tape.proofs.calls.begin.Goals as goal

pub returns-clause-began : goal.returns-clause-began
returns-clause-began g c start outcomes awaited k asked seen whole at =
    let kind : IsKindOf c.kind_of-kind.result asked = c.kind_of-kind.ensures asked seen in
    handed_on (view_of g.D.Disk.seen g.D.Disk.faults g.D.Disk.clock) start c.args.world.now c.step-said.new.self outcomes awaited k at c.args.node c.args.call asked c.kind_of-kind.result c.step-said.result c.hand_on.result seen whole kind c.hand_on.ensures c.step-said.ensures.is
