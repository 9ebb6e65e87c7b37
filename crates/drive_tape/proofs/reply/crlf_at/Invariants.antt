use Rattle.std.proofs.Common.{◌≡◌, ℕ, ◌+◌, ◌<◌, get_or}
use Rattle.drive_tape.proofs.reply.crlf_at.Given as goal

-- no CRLF ends before this place
abbrev pub invariant-loop-at : goal.invariant-loop-at
invariant-loop-at l = (k : ℕ) → k + 1 < l.at → get_or l.octets k 0 ≡ 13 → get_or l.octets (k + 1) 0 ≡ 10 → ⊥
