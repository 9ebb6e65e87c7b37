use Rattle.std.proofs.Common.{List}
use Rattle.std.proofs.lemmas.Result.{IfOk-weaker}
use Rattle.mail_model.specs.Record.{Record}
use Rattle.object_table.specs.Mailboxes.{AreHere}
use Rattle.node_store.specs.Keeps.{KeepsRecords}
use Rattle.node_store.specs.Mailboxes.{AreIdsHere}
use Rattle.node_store.proofs.Mailboxes.{ids_here}
use Rattle.node_store.proofs.store.NodeStore.ids.Goals as goal

pub returns : goal.returns
returns c = IfOk-weaker c.ids.result (λ ids. AreHere c.args.user.now c.args.self.now.objects ids) (λ ids. (records : List Record) → KeepsRecords records c.args.self.now → AreIdsHere c.args.user.now records ids)
    (λ ids are. λ records k. ids_here c.args.user.now c.args.self.now.objects records ids k.says are) c.ids.ensures
