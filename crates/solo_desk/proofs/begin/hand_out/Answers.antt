use Rattle.std.proofs.Common.{Some, subst}
use Rattle.std.specs.Prelude.{Ok}
use Rattle.node_store.specs.Disks.{view_of}
use Rattle.solo_desk.specs.Beginning.{TicketOf}
use Rattle.solo_desk.proofs.Striking.{hands_taken}
use Rattle.solo_desk.proofs.begin.hand_out.Goals as goal

pub returns-in-Some-clause-hands : goal.returns-in-Some-clause-hands
returns-in-Some-clause-hands g c =
    let on = view_of g.D.Disk.seen g.D.Disk.faults g.D.Disk.clock in
    hands_taken on c.args.kind c.args.said.now c.in-Some.ticket c.take.result c.args.world.now c.take.new.world (subst (λ found. TicketOf c.args.said.now (Ok found)) c.in-Some.is c.in_ok-ticket.ensures)
    c.take.ensures.takes
