-- What is written before a call is begun.
use Rattle.std.specs.Prelude.{◌≡◌, ◌<◌, ◌++◌, ℕ, List, [], length, Option, Result, Ok, Err}
use Rattle.std.specs.Io.KnownBytes.{Appends}
use Rattle.session_gate.specs.declared.calls.Dealing.{Dealing}
use Rattle.session_gate.specs.declared.stop.Stop.{Stop}
use Rattle.session_gate.specs.declared.stop.Stop.TheVariants as stops

-- All that was said was written, whatever came of the call; or the sink failed, and a prefix was that is not the whole.
abbrev pub WritesFirst : Result Dealing Stop → Option (List ℕ) → Option (List ℕ) → (out0 out1 : List ℕ) → Type 0
WritesFirst (Ok dealing) held0 held1 out0 out1 = Appends held0 held1 out0 × (out1 ≡ [])
WritesFirst (Err stops.NoMemory) held0 held1 out0 out1 = Appends held0 held1 out0
WritesFirst (Err stops.WriteFault) held0 held1 out0 out1 = (front : List ℕ) × (missing : List ℕ) × (0 < length missing) × (out0 ≡ front ++ missing) × Appends held0 held1 front
