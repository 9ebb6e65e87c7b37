-- What comes of a Leave.
use Rattle.std.specs.Prelude.{◌≡◌, true, false, Bool, ⊤, Result, Ok, Err}
use Rattle.call_tickets.specs.declared.call.Call.{Call}
use Rattle.call_tickets.specs.declared.call.Call.TheVariants.{Leave}
use Rattle.call_tickets.specs.declared.desk.DeskFault.{DeskFault}
use Rattle.cluster_world.specs.declared.step.Said.{Said}
use Rattle.cluster_world.specs.declared.step.Said.TheVariants as said
use Rattle.cluster_world.specs.declared.fault.StepFault.{StepFault}
use Rattle.solo_desk.specs.Steps.{refusal_of}

-- whether the call is one
abbrev pub IsLeave : Call → Bool → Type 0
IsLeave (Leave user login manager) found = found ≡ true
IsLeave call found = found ≡ false

-- what a step may say that begins one
abbrev pub IsSaidOfLeave : Result Said StepFault → Type 0
IsSaidOfLeave (Ok said.Noted) = ⊤
IsSaidOfLeave (Ok what) = ⊥
IsSaidOfLeave (Err why) = ⊤

-- it is noted, or was refused
abbrev pub IsNoted : Result Said StepFault → Result (Unit {0}) DeskFault → Type 0
IsNoted (Ok said.Noted) (Ok done) = ⊤
IsNoted (Err why) (Err cause) = cause ≡ refusal_of why
IsNoted came result = ⊥
