-- Which moves and which ends are of a kind.
use Rattle.std.specs.Prelude.{⊤}
use Rattle.session_gate.specs.declared.stop.Close.{Close}
use Rattle.session_gate.specs.declared.stop.Close.TheVariants as closes
use Rattle.session_gate.specs.declared.talk.Next.{Next}
use Rattle.session_gate.specs.declared.talk.Next.TheVariants as next

-- another move may follow
abbrev pub MayMove : Next → Type 0
MayMove next.Said = ⊤
MayMove next.Answered = ⊤
MayMove next.Rests = ⊥
MayMove next.Fell = ⊥

-- the sink failed
abbrev pub IsSinkFault : Close → Type 0
IsSinkFault closes.Fell = ⊥
IsSinkFault closes.FellUnwritten = ⊤
IsSinkFault closes.Ended = ⊥
IsSinkFault closes.ReadFault = ⊥
IsSinkFault closes.WriteFault = ⊤
IsSinkFault closes.TooLong = ⊥
IsSinkFault closes.NoMemory = ⊥

-- the source failed
abbrev pub IsSourceFault : Close → Type 0
IsSourceFault closes.Fell = ⊥
IsSourceFault closes.FellUnwritten = ⊥
IsSourceFault closes.Ended = ⊥
IsSourceFault closes.ReadFault = ⊤
IsSourceFault closes.WriteFault = ⊥
IsSourceFault closes.TooLong = ⊥
IsSourceFault closes.NoMemory = ⊥
