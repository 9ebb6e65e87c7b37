use Rattle.std.proofs.Common.{arith}
use Rattle.node_store.specs.Disks.{view_of}
use Rattle.node_core.proofs.FirstBoot.{is_first}
use Rattle.node_core.proofs.node.Node.first.Goals as goal

pub returns-clause-starts : goal.returns-clause-starts
returns-clause-starts g c =
    let on = view_of g.D.Disk.seen g.D.Disk.faults g.D.Disk.clock in
    let made = c.in_ok-store.ensures.created in
    let n = c.in_first_boot.ensures in
    is_first on c.args.plan.now c.args.number c.args.disk.now c.create.new.disk c.boot.new.disk c.in_ok-store.store made.0 made.2 made.3 c.boot.new.self c.in_ok-boot.ensures.wrote
    c.in_first_boot.result n.store n.boot n.drawn n.count n.calls n.nodes n.copies n.confirm n.installed n.whose n.none (omega (arith, c.well_formed)) c.requires.within c.requires.few c.requires.copies
