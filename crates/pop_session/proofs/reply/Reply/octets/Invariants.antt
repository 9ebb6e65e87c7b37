use Rattle.std.proofs.Common.{◌≡◌, ◌++◌, drop, flat_map}
use Rattle.mail_model.specs.Lines.{sent_line}
use Rattle.pop_session.proofs.reply.Reply.octets.Given as goal

-- the octets so far, and those of the lines that are left
abbrev pub invariant-loop-line : goal.invariant-loop-line
invariant-loop-line l = l.octets.items ++ flat_map sent_line (drop l.line-index l.line-items) ≡ flat_map sent_line l.line-items
