-- What is written before a call is begun.
use Rattle.std.proofs.Common.{◌≡◌, ℕ, List, [], Option, Result, Ok, Err, refl}
use Rattle.std.specs.Prelude.{IsErrOf}
use Rattle.std.specs.Io.KnownBytes.{Appends}
use Rattle.session_gate.specs.Turns.{WritesFirst}
use Rattle.session_gate.specs.declared.calls.Dealing.{Dealing}
use Rattle.session_gate.specs.declared.stop.Stop.{Stop}
use Rattle.session_gate.specs.declared.stop.Stop.TheVariants as stops

-- all was written before the call was begun, in which no sink fails
pub settled_writes : (result : Result Dealing Stop) (held0 held1 : Option (List ℕ)) (out0 out1 : List ℕ) → (IsErrOf {T = Dealing} {E = Stop} result stops.WriteFault → ⊥) → Appends held0 held1 out0 → out1 ≡ []
    → WritesFirst result held0 held1 out0 out1
settled_writes (Ok dealing) held0 held1 out0 out1 never writes empty = (writes, empty)
settled_writes (Err stops.NoMemory) held0 held1 out0 out1 never writes empty = writes
settled_writes (Err stops.WriteFault) held0 held1 out0 out1 never writes empty = absurd (never refl)
