-- What is handed on of a call that was asked for.
use Rattle.std.specs.Prelude.{◌≡◌, true, false, ⊤, Result, Ok, Err}
use Rattle.mail_base.specs.declared.filing.CallKind.{CallKind}
use Rattle.call_tickets.specs.declared.answer.Answer.{Answer}
use Rattle.call_tickets.specs.declared.answer.Ask.{Ask}
use Rattle.call_tickets.specs.declared.answer.Ask.TheVariants.{Pending, Done}
use Rattle.call_tickets.specs.declared.desk.DeskFault.{DeskFault}
use Rattle.cluster_world.specs.declared.step.Said.{Said}
use Rattle.cluster_world.specs.declared.step.Said.TheVariants as said
use Rattle.cluster_world.specs.declared.fault.StepFault.{StepFault}
use Rattle.solo_desk.specs.Standing.{fits_kind}
use Rattle.solo_desk.specs.Steps.{refusal_of}

-- what a step may say that asks for a call
abbrev pub IsSaidOfAsk : Result Said StepFault → Type 0
IsSaidOfAsk (Ok (said.Asked ask)) = ⊤
IsSaidOfAsk (Ok what) = ⊥
IsSaidOfAsk (Err why) = ⊤

-- an answer of its kind; no other is handed on
abbrev pub OwnAnswer : CallKind → Answer → Result Ask DeskFault → Type 0
OwnAnswer kind answer (Ok ask) = (ask ≡ Done answer) × (fits_kind kind answer ≡ true)
OwnAnswer kind answer (Err why) = fits_kind kind answer ≡ false

abbrev pub Tells : CallKind → Ask → Result Ask DeskFault → Type 0
Tells kind (Pending got wanted) result = result ≡ Ok (Pending got wanted)
Tells kind (Done answer) result = OwnAnswer kind answer result

abbrev pub HandsOn : CallKind → Result Said StepFault → Result Ask DeskFault → Type 0
HandsOn kind (Ok (said.Asked ask)) result = Tells kind ask result
HandsOn kind (Ok what) result = ⊥
HandsOn kind (Err why) result = result ≡ Err (refusal_of why)
