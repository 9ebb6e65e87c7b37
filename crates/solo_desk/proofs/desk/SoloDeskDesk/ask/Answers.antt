use Rattle.std.proofs.Common.{Some}
use Rattle.node_store.specs.Disks.{view_of}
use Rattle.desk_model.proofs.Knowing.{asks_known}
use Rattle.solo_desk.specs.Passes.{own_entries}
use Rattle.solo_desk.proofs.Passing.{then_pass, still_belongs, own_grew}
use Rattle.solo_desk.proofs.desk.SoloDeskDesk.ask.Goals as goal

pub returns-clause-belongs : goal.returns-clause-belongs
returns-clause-belongs g c =
    let on = view_of g.D.Disk.seen g.D.Disk.faults g.D.Disk.clock in
    still_belongs on c.args.pass.now c.requires.belongs c.ask_call-asked.new.world c.count_asked.new.tally (c.ask_call-asked.ensures.serves c.requires.belongs.serves) c.ask_call-asked.ensures.longer

pub returns-clause-asked : goal.returns-clause-asked
returns-clause-asked g c =
    let on = view_of g.D.Disk.seen g.D.Disk.faults g.D.Disk.clock in
    let adds = c.ask_call-asked.ensures.adds c.requires.belongs.serves in
    asks_known (Some (own_entries c.args.pass.now)) (Some (own_entries (then_pass on c.args.pass.now c.requires.belongs c.ask_call-asked.new.world c.count_asked.new.tally))) adds.added (own_grew on c.args.pass.now c.requires.belongs c.ask_call-asked.new.world c.count_asked.new.tally adds.added adds.book) c.args.pass.now.tally c.count_asked.new.tally
    c.args.ticket.now.begun c.ask_call-asked.result adds.is c.count_asked.ensures.fell c.count_asked.ensures.rose
