use Rattle.std.proofs.Common.{◌≡◌, ◌++◌, List, map, drop}
use Rattle.mail_model.specs.Record.{Record}
use Rattle.login_model.specs.Facts.{copy_told}
use Rattle.node_core.specs.Nodes.{NodeKeeps}
use Rattle.node_core.specs.Listing.{copies_for}
use Rattle.node_core.proofs.node.Node.items.Given as goal

abbrev pub invariant-loop-id : goal.invariant-loop-id
invariant-loop-id l =
    (records : List Record) → NodeKeeps records l.self → map copy_told l.items.items ++ copies_for l.user records (drop l.id-index l.ids) ≡ copies_for l.user records l.ids
