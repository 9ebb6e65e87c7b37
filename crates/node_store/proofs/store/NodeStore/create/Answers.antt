use Rattle.std.proofs.Common.{refl}
use Rattle.node_store.proofs.Logged.{none_logged}
use Rattle.node_store.proofs.Silent.{new_store, none_held}
use Rattle.node_store.proofs.store.NodeStore.create.Goals as goal

pub returns-clause-created : goal.returns-clause-created
returns-clause-created g c =
    let made = c.in_ok-journal.ensures.created in (
      new_store c.args.own _ (g.D.Disk.seen c.new_journal.new.disk) refl made.3 c.new-2.ensures c.new-3.ensures c.new.ensures,
      record { gate = made.1; objects = none_held _ c.new-2.ensures; logged = none_logged c.new-3.result c.new-3.ensures },
      made.0,
      made.2,
    )
