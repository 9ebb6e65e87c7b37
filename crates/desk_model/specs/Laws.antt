-- What the steps of a cluster keep, and what they add to its book.
use Rattle.std.specs.Prelude.{◌≡◌, ℕ, Bool, List, Option, Some}
use Rattle.mail_model.specs.Plan.{Plan}
use Rattle.mail_model.specs.Told.{Mail}
use Rattle.object_model.specs.Letters.{Number, MapRow}
use Rattle.session_model.specs.Calls.{Call}
use Rattle.session_model.specs.Books.{struck_by}
use Rattle.cluster_model.specs.Cluster.{NodeFiling, Ticket}
use Rattle.cluster_model.specs.Parts.{Sound}
use Rattle.cluster_model.specs.Progress.{NodeAnswer}
use Rattle.cluster_model.specs.Progress.Ask.{Done}
use Rattle.cluster_model.specs.Steps.{NodeCall, Step, StepOutcome}
use Rattle.cluster_model.specs.Steps.NodeCall.{Deliver}
use Rattle.cluster_model.specs.Steps.Step.{Begin, AskFor}
use Rattle.cluster_model.specs.Steps.Said.{Begun, Asked}
use Rattle.cluster_model.specs.Steps.StepOutcome.{Says}
use Rattle.cluster_model.specs.Makes.{MakesStep}
use Rattle.cluster_model.specs.World.{World, cluster_of}
use Rattle.cluster_model.specs.WorldLaws.{opening_world}
use Rattle.cluster_owes.specs.Seen.{call_made}
use Rattle.cluster_owes.specs.Outcomes.{IsIdleStep, IsFall}
use Rattle.desk_model.specs.Tickets.{TicketsAskOneThing, StandsUnder, filing_in}
use Rattle.desk_model.specs.Added.{Adds, AreQuiet, AreStrikes, AreForAnswer, IsFiledAs}

-- as a cluster opens, each ticket asks for one thing, since there is none
abbrev pub OpeningAsksOneThing : Type 0
OpeningAsksOneThing = (nodes : ℕ) (map : List MapRow) → TicketsAskOneThing (opening_world nodes map).slots

-- and so it stays, whatever step is made
abbrev pub StepsAskOneThing : Type 0
StepsAskOneThing = (plan : Plan) (tells : Bool) (old new : World) (step : Step) (outcome : StepOutcome) → MakesStep plan tells old step outcome new → Sound plan.confirm (cluster_of old)
    → TicketsAskOneThing old.slots → TicketsAskOneThing new.slots

-- A step in which no call begins but a Leave, and no ticket is answered, acknowledges nothing and strikes nothing.
abbrev pub IdleStepsAreQuiet : Type 0
IdleStepsAreQuiet = (plan : Plan) (tells : Bool) (old new : World) (step : Step) (outcome : StepOutcome) → MakesStep plan tells old step outcome new → Sound plan.confirm (cluster_of old)
    → IsIdleStep step outcome → Adds AreQuiet old.book new.book

-- A call that begins, and one in whose beginning the node goes down, strikes what it is to delete.
abbrev pub BegunCallsStrike : Type 0
BegunCallsStrike = (plan : Plan) (tells : Bool) (old new : World) (own : ℕ) (call : NodeCall) (asked : Call) → call_made call ≡ Some asked
    → ((number : Number) → MakesStep plan tells old (Begin own call) (Says (Begun number)) new → Adds (AreStrikes (struck_by asked)) old.book new.book)
    × ((outcome : StepOutcome) → IsFall outcome → MakesStep plan tells old (Begin own call) outcome new → Adds (AreStrikes (struck_by asked)) old.book new.book)

-- What stands under the ticket of a delivery has filed the message as it was told, or nothing.
abbrev pub DeliveriesFile : Type 0
DeliveriesFile = (plan : Plan) (tells : Bool) (old new : World) (own : ℕ) (mail : Mail) (number : Number) → MakesStep plan tells old (Begin own (Deliver mail)) (Says (Begun number)) new
    → (ticket : Ticket) → StandsUnder new.slots number ticket → (filing : NodeFiling) → filing_in ticket.wants ≡ Some filing → IsFiledAs mail filing

-- The answer to a ticket acknowledges the copies of the message that was filed under it, if it is stored, and nothing else. Whatever stands under it filed this: of a call that reads nothing
-- stands there.
abbrev pub AnswersAcknowledge : Type 0
AnswersAcknowledge = (plan : Plan) (tells : Bool) (old new : World) (number : Number) (own : NodeAnswer) → MakesStep plan tells old (AskFor number) (Says (Asked (Done own))) new
    → TicketsAskOneThing old.slots → (filed : Option NodeFiling) → ((ticket : Ticket) → StandsUnder old.slots number ticket → filing_in ticket.wants ≡ filed) → Adds (AreForAnswer filed own) old.book new.book
