use Rattle.std.proofs.Common.{◌≡◌, ◌++◌, map}
use Rattle.object_table.proofs.user_keys.UserKeys.names.Given as goal

abbrev pub invariant-loop-user : goal.invariant-loop-user
invariant-loop-user l = l.names ++ l.user-iterator ≡ map (λ e. e.0) l.self.keys.entries
