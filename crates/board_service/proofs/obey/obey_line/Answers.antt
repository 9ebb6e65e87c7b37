use Rattle.std.proofs.Common.{◌≡◌, ◌++◌, ℕ, List, Option, subst}
use Rattle.std.specs.Prelude.{OnOk}
use Rattle.node_store.specs.Disks.{view_of}
use Rattle.board_service.specs.Obeying.{HearsOrder}
use Rattle.board_service.specs.declared.orders.ConsoleOrder.{ConsoleOrder}
use Rattle.board_service.proofs.obey.obey_line.Goals as goal

pub returns-clause-obeys : goal.returns-clause-obeys
returns-clause-obeys g c =
    subst (λ (heard : Option ConsoleOrder). OnOk c.obey_heard.result ((said : List ℕ) × (c.obey_heard.new.out.items ≡ c.args.out.now.items ++ said)
    × HearsOrder (view_of g.D.Disk.seen g.D.Disk.faults g.D.Disk.clock) c.args.board.now heard c.args.number c.args.pass.now said c.obey_heard.new.pass)) c.in_ok-heard.ensures c.obey_heard.ensures.hears
