use Rattle.std.proofs.Common.{◌≡◌, ◌++◌}
use Rattle.mailbox_fragment.proofs.fragments.listed.Given as goal

abbrev pub invariant-loop-id : goal.invariant-loop-id
invariant-loop-id l = l.listed ++ l.id-iterator ≡ l.ids.keys
