use Rattle.std.proofs.Common.{◌≡◌, ◌++◌, drop}
use Rattle.mail_model.specs.PopReplies.{listed_slots}
use Rattle.mail_plain.proofs.marks.slots.Given as goal

-- the places so far, and those of the messages that are left
abbrev pub invariant-loop-item : goal.invariant-loop-item
invariant-loop-item l = l.slots.items ++ listed_slots (drop l.item-index l.items) ≡ listed_slots l.items
