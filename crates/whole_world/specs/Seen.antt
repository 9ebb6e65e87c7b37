-- What messages see of the steps of a whole world: steps of their own.
use Rattle.std.specs.Prelude.{Bool, List, map}
use Rattle.mail_model.specs.Plan.{Plan}
use Rattle.cluster_model.specs.Steps as mail
use Rattle.cluster_model.specs.Steps.Step.{Form}
use Rattle.cluster_model.specs.Makes as mail_makes
use Rattle.whole_world.specs.World.{World, mail_world_of}
use Rattle.whole_world.specs.Steps.{Step, Said, StepFault, StepOutcome}
use Rattle.whole_world.specs.Steps.Step.{OfMessages, OpenGroup, ConcludeGroup, ReportTo}
use Rattle.whole_world.specs.Steps.Said.{Told, Grouped, Concluded}
use Rattle.whole_world.specs.Steps.StepFault.{Fault, NotAGroup}
use Rattle.whole_world.specs.Steps.StepOutcome.{Says, Refused, NoMemory}
use Rattle.whole_world.specs.Makes.{MadeStep, MakesStep, MakesAll}

abbrev pub step_seen : Step → mail.Step
step_seen (OfMessages step) = step
step_seen (OpenGroup n) = Form n
step_seen (ConcludeGroup n) = Form n
step_seen (ReportTo from to) = Form from

abbrev pub said_seen : Said → mail.Said
said_seen (Told said) = said
said_seen (Grouped epoch) = mail.Said.Grouped epoch
said_seen (Concluded epoch members) = mail.Said.Concluded epoch members

abbrev pub fault_seen : StepFault → mail.StepFault
fault_seen (Fault fault) = fault
fault_seen NotAGroup = mail.StepFault.NotAGroup

abbrev pub outcome_seen : StepOutcome → mail.StepOutcome
outcome_seen (Says said) = mail.StepOutcome.Says (said_seen said)
outcome_seen (Refused fault) = mail.StepOutcome.Refused (fault_seen fault)
outcome_seen (NoMemory down) = mail.StepOutcome.NoMemory down

abbrev pub made_seen : MadeStep → mail_makes.MadeStep
made_seen made = record { step = step_seen made.step; outcome = outcome_seen made.outcome }

-- Messages see each step, whatever comes of it, as the very same step of theirs, or as a Form.
abbrev pub MailSees : Type 0
MailSees = (plan : Plan) (tells : Bool) (old new : World) (step : Step) (outcome : StepOutcome) → MakesStep plan tells old step outcome new
    → mail_makes.MakesStep plan tells (mail_world_of old) (step_seen step) (outcome_seen outcome) (mail_world_of new)

-- Whatever steps are made, messages see that steps of theirs are made. So what holds of these holds in the whole world.
abbrev pub MessagesSeeSteps : Type 0
MessagesSeeSteps = (plan : Plan) (tells : Bool) (old new : World) (steps : List MadeStep) → MakesAll plan tells old steps new
    → mail_makes.MakesAll plan tells (mail_world_of old) (map made_seen steps) (mail_world_of new)
