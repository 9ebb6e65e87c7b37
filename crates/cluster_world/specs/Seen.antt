-- Steps, and what comes of them, in the machine's words.
use Rattle.std.specs.Prelude.{Result, Ok, Err}
use Rattle.cluster_model.specs.Steps as plain
use Rattle.whole_world.specs.Steps as whole
use Rattle.node_tickets.specs.Seen.{ask_seen}
use Rattle.node_core.specs.Beginning.{call_seen}
use Rattle.node_core.specs.Hearing.{why_seen}
use Rattle.cluster_world.specs.declared.step.Step.{Step}
use Rattle.cluster_world.specs.declared.step.Step.TheVariants as step
use Rattle.cluster_world.specs.declared.step.Said.{Said}
use Rattle.cluster_world.specs.declared.step.Said.TheVariants as said
use Rattle.cluster_world.specs.declared.fault.StepFault.{StepFault}
use Rattle.cluster_world.specs.declared.fault.StepFault.TheVariants as fault

abbrev pub step_seen : Step → plain.Step
step_seen (step.Begin node call) = plain.Step.Begin node (call_seen call)
step_seen (step.Ask ticket) = plain.Step.AskFor ticket
step_seen (step.GiveUp ticket) = plain.Step.GiveUp ticket
step_seen (step.Post letter keep) = plain.Step.Post letter keep
step_seen (step.Drop letter) = plain.Step.DropLetter letter
step_seen (step.Push from to) = plain.Step.PushTo from to
step_seen (step.Widen at user id to) = plain.Step.Widen at user id to
step_seen (step.Group node) = plain.Step.Form node
step_seen (step.Conclude node) = plain.Step.Form node
step_seen (step.Report from to) = plain.Step.Form from
step_seen (step.Crash node) = plain.Step.Crash node
step_seen (step.Start node) = plain.Step.Start node
step_seen (step.Lose node) = plain.Step.Lose node
step_seen (step.Tick seconds) = plain.Step.Tick seconds

abbrev pub said_seen : Said → plain.Said
said_seen (said.Begun ticket stirs) = plain.Said.Begun ticket
said_seen said.Noted = plain.Said.Noted
said_seen (said.Asked ask) = plain.Said.Asked (ask_seen ask)
said_seen said.Heard = plain.Said.Heard
said_seen (said.Thrown why) = plain.Said.Thrown (why_seen why)
said_seen (said.Sent letters) = plain.Said.Sent letters
said_seen (said.Widened did) = plain.Said.Widened did
said_seen (said.Grouped epoch) = plain.Said.Grouped epoch
said_seen (said.Concluded epoch members) = plain.Said.Concluded epoch members
said_seen (said.NodeUp boot) = plain.Said.NodeUp boot
said_seen said.Done = plain.Said.Finished
said_seen (said.Faulted node) = plain.Said.Faulted node

abbrev pub fault_seen : StepFault → plain.StepOutcome
fault_seen fault.NoSuchNode = plain.StepOutcome.Refused plain.StepFault.NoSuchNode
fault_seen fault.NodeLost = plain.StepOutcome.Refused plain.StepFault.NodeLost
fault_seen fault.NodeDown = plain.StepOutcome.Refused plain.StepFault.NodeDown
fault_seen fault.NodeUp = plain.StepOutcome.Refused plain.StepFault.NodeIsUp
fault_seen fault.NoSuchLetter = plain.StepOutcome.Refused plain.StepFault.NoSuchLetter
fault_seen fault.NoSuchTicket = plain.StepOutcome.Refused plain.StepFault.NoSuchTicket
fault_seen fault.NotAGroup = plain.StepOutcome.Refused plain.StepFault.NotAGroup
fault_seen fault.Worn = plain.StepOutcome.Refused plain.StepFault.Worn
fault_seen fault.NoRoom = plain.StepOutcome.Refused plain.StepFault.NoRoom
fault_seen (fault.NoMemory down) = plain.StepOutcome.NoMemory down

abbrev pub outcome_seen : Result Said StepFault → plain.StepOutcome
outcome_seen (Ok said) = plain.StepOutcome.Says (said_seen said)
outcome_seen (Err fault) = fault_seen fault

-- and in the words of the whole machine
abbrev pub whole_step : Step → whole.Step
whole_step (step.Begin node call) = whole.Step.OfMessages (plain.Step.Begin node (call_seen call))
whole_step (step.Ask ticket) = whole.Step.OfMessages (plain.Step.AskFor ticket)
whole_step (step.GiveUp ticket) = whole.Step.OfMessages (plain.Step.GiveUp ticket)
whole_step (step.Post letter keep) = whole.Step.OfMessages (plain.Step.Post letter keep)
whole_step (step.Drop letter) = whole.Step.OfMessages (plain.Step.DropLetter letter)
whole_step (step.Push from to) = whole.Step.OfMessages (plain.Step.PushTo from to)
whole_step (step.Widen at user id to) = whole.Step.OfMessages (plain.Step.Widen at user id to)
whole_step (step.Group node) = whole.Step.OpenGroup node
whole_step (step.Conclude node) = whole.Step.ConcludeGroup node
whole_step (step.Report from to) = whole.Step.ReportTo from to
whole_step (step.Crash node) = whole.Step.OfMessages (plain.Step.Crash node)
whole_step (step.Start node) = whole.Step.OfMessages (plain.Step.Start node)
whole_step (step.Lose node) = whole.Step.OfMessages (plain.Step.Lose node)
whole_step (step.Tick seconds) = whole.Step.OfMessages (plain.Step.Tick seconds)

abbrev pub whole_said : Said → whole.Said
whole_said (said.Begun ticket stirs) = whole.Said.Told (plain.Said.Begun ticket)
whole_said said.Noted = whole.Said.Told plain.Said.Noted
whole_said (said.Asked ask) = whole.Said.Told (plain.Said.Asked (ask_seen ask))
whole_said said.Heard = whole.Said.Told plain.Said.Heard
whole_said (said.Thrown why) = whole.Said.Told (plain.Said.Thrown (why_seen why))
whole_said (said.Sent letters) = whole.Said.Told (plain.Said.Sent letters)
whole_said (said.Widened did) = whole.Said.Told (plain.Said.Widened did)
whole_said (said.Grouped epoch) = whole.Said.Grouped epoch
whole_said (said.Concluded epoch members) = whole.Said.Concluded epoch members
whole_said (said.NodeUp boot) = whole.Said.Told (plain.Said.NodeUp boot)
whole_said said.Done = whole.Said.Told plain.Said.Finished
whole_said (said.Faulted node) = whole.Said.Told (plain.Said.Faulted node)

abbrev pub whole_fault : StepFault → whole.StepOutcome
whole_fault fault.NoSuchNode = whole.StepOutcome.Refused (whole.StepFault.Fault plain.StepFault.NoSuchNode)
whole_fault fault.NodeLost = whole.StepOutcome.Refused (whole.StepFault.Fault plain.StepFault.NodeLost)
whole_fault fault.NodeDown = whole.StepOutcome.Refused (whole.StepFault.Fault plain.StepFault.NodeDown)
whole_fault fault.NodeUp = whole.StepOutcome.Refused (whole.StepFault.Fault plain.StepFault.NodeIsUp)
whole_fault fault.NoSuchLetter = whole.StepOutcome.Refused (whole.StepFault.Fault plain.StepFault.NoSuchLetter)
whole_fault fault.NoSuchTicket = whole.StepOutcome.Refused (whole.StepFault.Fault plain.StepFault.NoSuchTicket)
whole_fault fault.NotAGroup = whole.StepOutcome.Refused whole.StepFault.NotAGroup
whole_fault fault.Worn = whole.StepOutcome.Refused (whole.StepFault.Fault plain.StepFault.Worn)
whole_fault fault.NoRoom = whole.StepOutcome.Refused (whole.StepFault.Fault plain.StepFault.NoRoom)
whole_fault (fault.NoMemory down) = whole.StepOutcome.NoMemory down

abbrev pub whole_outcome : Result Said StepFault → whole.StepOutcome
whole_outcome (Ok said) = whole.StepOutcome.Says (whole_said said)
whole_outcome (Err fault) = whole_fault fault
