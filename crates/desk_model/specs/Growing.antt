-- What is known of a call whose pass may cease to tell within it.
use Rattle.std.specs.Prelude.{List, ⊤, Option, Some, IfSome, Result, Ok, Err}
use Rattle.mail_model.specs.Book.{BookEntry}
use Rattle.mail_base.specs.declared.filing.Begun.{Begun}
use Rattle.session_model.specs.Calls as model
use Rattle.call_tickets.specs.Seen.{answer_seen}
use Rattle.call_tickets.specs.Tells.{TellsMore}
use Rattle.call_tickets.specs.Begins.{IsKindFor}
use Rattle.call_tickets.specs.Asks.{FitsKind}
use Rattle.call_tickets.specs.declared.answer.Ask.{Ask}
use Rattle.call_tickets.specs.declared.answer.Ask.TheVariants.{Pending, Done}
use Rattle.call_tickets.specs.declared.desk.DeskFault.{DeskFault}
use Rattle.call_tickets.specs.declared.desk.DeskTicket.{DeskTicket}

-- The own entries that are told are those that were told before, and after that what was added, of which this holds.
pub record HasGrown (P : List BookEntry → Type 0) (own : Option (List BookEntry)) (told : List BookEntry) : Type 0 where
  pub added : List BookEntry
  pub grew : TellsMore own added (Some told)
  pub is : P added

-- so it is, where the pass tells still
abbrev pub GrowsBy : (List BookEntry → Type 0) → Option (List BookEntry) → Option (List BookEntry) → Type 0
GrowsBy P own own' = IfSome own' (λ told. HasGrown P own told)

-- a call that has begun is of its kind, whatever is told
abbrev pub BeginsInKind : model.Call → Result DeskTicket DeskFault → Type 0
BeginsInKind call (Ok ticket) = IsKindFor call ticket.begun.kind
BeginsInKind call (Err why) = ⊤

-- and so is an answer
abbrev pub AnswersInKind : Begun → Result Ask DeskFault → Type 0
AnswersInKind begun (Ok (Pending got wanted)) = ⊤
AnswersInKind begun (Ok (Done answer)) = FitsKind begun.kind (answer_seen answer)
AnswersInKind begun (Err why) = ⊤
