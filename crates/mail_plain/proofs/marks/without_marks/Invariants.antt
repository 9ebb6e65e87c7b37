use Rattle.std.proofs.Common.{◌≡◌, ◌++◌, drop}
use Rattle.mail_model.specs.PopReplies.{without_marks}
use Rattle.mail_plain.proofs.marks.without_marks.Given as goal

-- the places so far, and those that are left
abbrev pub invariant-loop-slot : goal.invariant-loop-slot
invariant-loop-slot l = l.clear.items ++ without_marks (drop l.slot-index l.slots) ≡ without_marks l.slots
