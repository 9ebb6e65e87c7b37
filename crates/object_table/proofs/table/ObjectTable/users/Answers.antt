use Rattle.std.proofs.Common.{subst}
use Rattle.std.proofs.lemmas.Result.{IfOk-weaker}
use Rattle.object_table.specs.Tables.{AreUsers}
use Rattle.object_table.specs.Users.{AreNamesOf}
use Rattle.object_table.proofs.Indexed.{users_are}
use Rattle.object_table.proofs.table.ObjectTable.users.Goals as goal

pub returns : goal.returns
returns c = IfOk-weaker c.names.result (λ names. AreNamesOf names c.self.inside.users) (λ names. AreUsers names c.args.self.now)
    (λ names h. subst (AreUsers names) c.self.view_is (users_are names c.self.inside.states c.self.inside.users c.self.invariant h)) c.names.ensures
