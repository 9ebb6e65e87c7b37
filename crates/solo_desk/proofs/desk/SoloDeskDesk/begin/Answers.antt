use Rattle.std.proofs.Common.{Some}
use Rattle.node_store.specs.Disks.{view_of}
use Rattle.desk_model.proofs.Knowing.{begins_known}
use Rattle.solo_desk.specs.Passes.{own_entries}
use Rattle.solo_desk.proofs.Passing.{then_pass, still_belongs, own_grew}
use Rattle.solo_desk.proofs.desk.SoloDeskDesk.begin.Goals as goal

pub returns-clause-belongs : goal.returns-clause-belongs
returns-clause-belongs g c =
    let on = view_of g.D.Disk.seen g.D.Disk.faults g.D.Disk.clock in
    still_belongs on c.args.pass.now c.requires.belongs c.begin_call-begun.new.world c.count_if_refused.new.tally (c.begin_call-begun.ensures.serves c.requires.belongs.serves) c.begin_call-begun.ensures.longer

pub returns-clause-began : goal.returns-clause-began
returns-clause-began g c asked seen =
    let on = view_of g.D.Disk.seen g.D.Disk.faults g.D.Disk.clock in
    let adds = c.begin_call-begun.ensures.adds asked seen c.requires.belongs.serves in
    begins_known (Some (own_entries c.args.pass.now)) (Some (own_entries (then_pass on c.args.pass.now c.requires.belongs c.begin_call-begun.new.world c.count_if_refused.new.tally))) adds.added (own_grew on c.args.pass.now c.requires.belongs c.begin_call-begun.new.world c.count_if_refused.new.tally adds.added adds.book) c.args.pass.now.tally c.count_if_refused.new.tally
    asked c.begin_call-begun.result adds.is c.count_if_refused.ensures.fell c.count_if_refused.ensures.rose
