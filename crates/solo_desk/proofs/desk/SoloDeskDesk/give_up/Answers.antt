use Rattle.std.proofs.Common.{Some}
use Rattle.node_store.specs.Disks.{view_of}
use Rattle.desk_model.proofs.Knowing.{refuses_known}
use Rattle.solo_desk.specs.Passes.{own_entries}
use Rattle.solo_desk.proofs.Passing.{then_pass, still_belongs, own_grew}
use Rattle.solo_desk.proofs.desk.SoloDeskDesk.give_up.Goals as goal

pub returns-clause-belongs : goal.returns-clause-belongs
returns-clause-belongs g c =
    let on = view_of g.D.Disk.seen g.D.Disk.faults g.D.Disk.clock in
    still_belongs on c.args.pass.now c.requires.belongs c.give_up_call-ended.new.world c.count_if_refused.new.tally (c.give_up_call-ended.ensures.serves c.requires.belongs.serves) c.give_up_call-ended.ensures.longer

pub returns-clause-quiet : goal.returns-clause-quiet
returns-clause-quiet g c =
    let on = view_of g.D.Disk.seen g.D.Disk.faults g.D.Disk.clock in
    let adds = c.give_up_call-ended.ensures.adds c.requires.belongs.serves in
    refuses_known (Some (own_entries c.args.pass.now)) (Some (own_entries (then_pass on c.args.pass.now c.requires.belongs c.give_up_call-ended.new.world c.count_if_refused.new.tally))) adds.added (own_grew on c.args.pass.now c.requires.belongs c.give_up_call-ended.new.world c.count_if_refused.new.tally adds.added adds.book) c.args.pass.now.tally c.count_if_refused.new.tally
    c.give_up_call-ended.result c.give_up_call-ended.ensures.never adds.is c.count_if_refused.ensures.fell c.count_if_refused.ensures.rose
