use Rattle.std.proofs.Common.{◌≡◌, ◌++◌, drop}
use Rattle.std.specs.List.{list_all}
use Rattle.smtp_wire.specs.Replies.{is_reply_text, reply_octets}
use Rattle.smtp_wire.proofs.reply.octets_of.Given as goal

-- what was written, and the octets of the lines that are left; if the texts of those fit, all do
abbrev pub invariant-loop-at : goal.invariant-loop-at
invariant-loop-at l =
    (l.octets.items ++ reply_octets l.fn.code (drop l.at l.fn.lines) ≡ reply_octets l.fn.code l.fn.lines)
    × (list_all is_reply_text l.fn.lines ≡ list_all is_reply_text (drop l.at l.fn.lines))
