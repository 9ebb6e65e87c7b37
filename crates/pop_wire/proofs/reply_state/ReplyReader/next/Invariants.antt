use Rattle.std.proofs.Common.{◌≡◌, ℕ, Bool, List, length}
use Rattle.pop_wire.specs.Readers.{Awaits}
use Rattle.pop_wire.proofs.reply_state.ReplyReader.next.Given as goal

-- the same octets were heard, and the same is awaited
abbrev pub invariant-loop-reply : goal.invariant-loop-reply
invariant-loop-reply l = ((several : Bool) (octets : List ℕ) → Awaits several octets l.fn.self → Awaits several octets l.self) × (l.self.several ≡ l.fn.self.several)

abbrev pub decreases-loop-reply : goal.decreases-loop-reply
decreases-loop-reply l = length l.self.cutter.rest
