use Rattle.std.proofs.Common.{◌≡◌, take}
use Rattle.mail_base.proofs.names.Names.copy.Given as goal

abbrev pub invariant-loop-name : goal.invariant-loop-name
invariant-loop-name l = l.held.items ≡ take l.name-index l.name-items
