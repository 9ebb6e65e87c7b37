-- What a step that was refused makes of the work on a tape.
use Rattle.std.specs.Prelude.{◌≡◌, ⊤, Result, Ok, Err}
use Rattle.cluster_world.specs.declared.step.Said.{Said}
use Rattle.cluster_world.specs.declared.fault.StepFault.{StepFault}
use Rattle.cluster_world.specs.declared.fault.StepFault.TheVariants as step
use Rattle.drive_tape.specs.declared.drove.TapeFault.TheVariants as tape
use Rattle.drive_tape.specs.declared.drove.Stop.{Stop}
use Rattle.drive_tape.specs.declared.drove.Stop.TheVariants.{Bad, NoMemory}

-- the tape has this fault, or memory ran out
abbrev pub stop_by : StepFault → Stop
stop_by step.NoSuchNode = Bad tape.NoSuchNode
stop_by step.NodeLost = Bad tape.NodeLost
stop_by step.NodeDown = Bad tape.NodeDown
stop_by step.NodeUp = Bad tape.NodeUp
stop_by step.NoSuchLetter = Bad tape.NoSuchLetter
stop_by step.NoSuchTicket = Bad tape.NoSuchTicket
stop_by step.NotAGroup = Bad tape.NotAGroup
stop_by step.Worn = Bad tape.Worn
stop_by step.NoRoom = Bad tape.NoRoom
stop_by (step.NoMemory down) = NoMemory

-- a step was done, or refused so
abbrev pub IsDoneOr : {T : Type 0} → Result Said StepFault → Result T Stop → Type 0
IsDoneOr (Ok what) (Ok _) = ⊤
IsDoneOr (Ok what) (Err stop) = ⊥
IsDoneOr (Err why) (Ok _) = ⊥
IsDoneOr (Err why) (Err stop) = stop ≡ stop_by why
