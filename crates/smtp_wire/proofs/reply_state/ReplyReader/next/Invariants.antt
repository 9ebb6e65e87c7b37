use Rattle.std.proofs.Common.{ℕ, List, length}
use Rattle.smtp_wire.specs.Readers.{HasHeard}
use Rattle.smtp_wire.proofs.reply_state.ReplyReader.next.Given as goal

-- the same octets were heard
abbrev pub invariant-loop-reply : goal.invariant-loop-reply
invariant-loop-reply l = (octets : List ℕ) → HasHeard l.fn.self octets → HasHeard l.self octets

abbrev pub decreases-loop-reply : goal.decreases-loop-reply
decreases-loop-reply l = length l.self.cutter.rest
