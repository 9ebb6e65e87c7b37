use Rattle.std.proofs.Common.{◌≡◌, ◌++◌, drop}
use Rattle.mail_model.specs.PopReplies.{unmarked}
use Rattle.mail_plain.proofs.marks.unmarked.Given as goal

-- the messages so far, and those of the places that are left
abbrev pub invariant-loop-slot : goal.invariant-loop-slot
invariant-loop-slot l = l.items.items ++ unmarked (drop l.slot-index l.slots) ≡ unmarked l.slots
