use Rattle.std.proofs.Common.{◌≡◌, ◌++◌, drop}
use Rattle.mail_model.specs.Maildrop.{with_mark}
use Rattle.mail_plain.proofs.marks.with_mark.Given as goal

-- the places so far, and those that are left with the number that is left to count
abbrev pub invariant-loop-slot : goal.invariant-loop-slot
invariant-loop-slot l = l.all.items ++ with_mark (drop l.slot-index l.slots) l.left ≡ with_mark l.slots l.number
