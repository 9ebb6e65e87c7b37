use Rattle.std.proofs.Common.{◌≡◌, ◌≤◌, ◌-◌, ◌++◌, length, take, drop}
use Rattle.mail_model.specs.PopReplies.{first_lines}
use Rattle.pop_session.proofs.top.lines_len.Given as goal

-- what was looked at, and the lines of what is left
abbrev pub invariant-loop-left : goal.invariant-loop-left
invariant-loop-left l = record { within : l.at ≤ length l.octets; same : take l.at l.octets ++ first_lines l.left (drop l.at l.octets) ≡ first_lines l.lines l.octets }

abbrev pub decreases-loop-left : goal.decreases-loop-left
decreases-loop-left l = length l.octets - l.at
