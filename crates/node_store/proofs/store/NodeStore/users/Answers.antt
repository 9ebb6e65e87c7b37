use Rattle.std.proofs.Common.{List}
use Rattle.std.proofs.lemmas.Result.{IfOk-weaker}
use Rattle.mail_model.specs.Record.{Record}
use Rattle.object_table.specs.Tables.{AreUsers}
use Rattle.node_store.specs.Keeps.{KeepsRecords}
use Rattle.node_store.specs.Mailboxes.{AreUsersSaid}
use Rattle.node_store.proofs.Mailboxes.{users_said}
use Rattle.node_store.proofs.store.NodeStore.users.Goals as goal

pub returns : goal.returns
returns c = IfOk-weaker c.users.result (λ names. AreUsers names c.args.self.now.objects) (λ names. (records : List Record) → KeepsRecords records c.args.self.now → AreUsersSaid records names)
    (λ names are. λ records k. users_said c.args.self.now.objects records names k.says are) c.users.ensures
