-- What comes of giving up a call.
use Rattle.std.specs.Prelude.{◌≡◌, ⊤, Result, Ok, Err}
use Rattle.call_tickets.specs.declared.desk.DeskFault.{DeskFault}
use Rattle.call_tickets.specs.declared.desk.DeskFault.TheVariants.{Down}
use Rattle.cluster_world.specs.declared.step.Said.{Said}
use Rattle.cluster_world.specs.declared.fault.StepFault.{StepFault}
use Rattle.solo_desk.specs.Steps.{refusal_of}

-- it has ended, or stands no more; or it was refused
abbrev pub EndsAs : Result Said StepFault → Result (Unit {0}) DeskFault → Type 0
EndsAs (Ok what) (Ok done) = ⊤
EndsAs (Ok what) (Err why) = ⊥
EndsAs (Err cause) (Ok done) = refusal_of cause ≡ Down
EndsAs (Err cause) (Err why) = why ≡ refusal_of cause
