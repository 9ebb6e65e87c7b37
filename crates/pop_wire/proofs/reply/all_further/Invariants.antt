use Rattle.std.proofs.Common.{◌≡◌, ◌++◌, drop}
use Rattle.std.specs.List.{list_all}
use Rattle.dot_text.specs.Dots.{dotted}
use Rattle.pop_wire.specs.Replies.{is_reply_text}
use Rattle.pop_wire.proofs.reply.all_further.Given as goal

-- what was written, and the octets of the lines that are left; if the texts of those fit, all do
abbrev pub invariant-loop-at : goal.invariant-loop-at
invariant-loop-at l =
    (l.octets.items ++ dotted (drop l.at l.fn.lines) ≡ dotted l.fn.lines)
    × (list_all is_reply_text l.fn.lines ≡ list_all is_reply_text (drop l.at l.fn.lines))
