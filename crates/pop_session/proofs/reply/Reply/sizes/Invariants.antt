use Rattle.std.proofs.Common.{◌≡◌, ◌+◌, ◌++◌, ◌∷◌, codes, drop}
use Rattle.mail_model.specs.PopReplies.{size_line, lines_from}
use Rattle.pop_session.specs.Slots.{slots_seen}
use Rattle.pop_session.proofs.reply.Reply.sizes.Given as goal

-- the lines so far, and those of the messages that are left
abbrev pub invariant-loop-at : goal.invariant-loop-at
invariant-loop-at l = l.reply ++ lines_from size_line (l.at + 1) (slots_seen (drop l.at l.slot-items)) ≡ codes "+OK listing" ∷ lines_from size_line 1 (slots_seen l.slot-items)
