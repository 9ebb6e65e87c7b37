use Rattle.std.proofs.Common.{◌≡◌, ◌++◌, drop}
use Rattle.mail_model.specs.PopReplies.{marked_ids}
use Rattle.mail_plain.proofs.marks.marked_ids.Given as goal

-- the ids so far, and those of the places that are left
abbrev pub invariant-loop-slot : goal.invariant-loop-slot
invariant-loop-slot l = l.ids.items ++ marked_ids (drop l.slot-index l.slots) ≡ marked_ids l.slots
