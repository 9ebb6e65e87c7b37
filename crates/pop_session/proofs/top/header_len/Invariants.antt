use Rattle.std.proofs.Common.{◌≡◌, ◌≤◌, ◌-◌, ◌++◌, length, take, drop}
use Rattle.mail_model.specs.PopReplies.{header_from, header_of}
use Rattle.pop_session.proofs.top.header_len.Given as goal

-- what was looked at, and the header of what is left
abbrev pub invariant-loop-at : goal.invariant-loop-at
invariant-loop-at l = record { within : l.at ≤ length l.octets; same : take l.at l.octets ++ header_from l.begins (drop l.at l.octets) ≡ header_of l.octets }

abbrev pub decreases-loop-at : goal.decreases-loop-at
decreases-loop-at l = length l.octets - l.at
