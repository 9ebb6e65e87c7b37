use Rattle.std.proofs.Common.{Some}
use Rattle.node_store.specs.Disks.{view_of}
use Rattle.desk_model.proofs.Knowing.{leaves_known}
use Rattle.solo_desk.specs.Passes.{own_entries}
use Rattle.solo_desk.proofs.Passing.{then_pass, still_belongs, own_grew}
use Rattle.solo_desk.proofs.desk.SoloDeskDesk.leave.Goals as goal

pub returns-clause-belongs : goal.returns-clause-belongs
returns-clause-belongs g c =
    let on = view_of g.D.Disk.seen g.D.Disk.faults g.D.Disk.clock in
    still_belongs on c.args.pass.now c.requires.belongs c.leave_login-left.new.world c.count_left.new.tally (c.leave_login-left.ensures.serves c.requires.belongs.serves) c.leave_login-left.ensures.longer

pub returns-clause-left : goal.returns-clause-left
returns-clause-left g c =
    let on = view_of g.D.Disk.seen g.D.Disk.faults g.D.Disk.clock in
    let adds = c.leave_login-left.ensures.adds c.requires.belongs.serves in
    leaves_known (Some (own_entries c.args.pass.now)) (Some (own_entries (then_pass on c.args.pass.now c.requires.belongs c.leave_login-left.new.world c.count_left.new.tally))) adds.added (own_grew on c.args.pass.now c.requires.belongs c.leave_login-left.new.world c.count_left.new.tally adds.added adds.book) c.args.pass.now.tally c.count_left.new.tally
    c.leave_login-left.result adds.is c.count_left.ensures
