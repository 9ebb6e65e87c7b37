use Rattle.std.proofs.Common.{◌≡◌, ◌++◌}
use Rattle.mailbox_fragment.specs.Here.{full_in}
use Rattle.mailbox_fragment.proofs.fragments.full_users.Given as goal

abbrev pub invariant-loop-user : goal.invariant-loop-user
invariant-loop-user l = l.full ++ full_in l.user-iterator ≡ full_in l.users.entries
