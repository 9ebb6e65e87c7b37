-- What the beginning of a call does, as its pass knows it.
use Rattle.std.specs.Prelude.{◌≡◌, ℕ, List, [], length, ⊤, Option, Some, None, IfSome, Result, Ok, Err}
use Rattle.io_edge.specs.Causes.{Rose}
use Rattle.sha2.specs.Sha256.{sha256}
use Rattle.mail_model.specs.Mail.{IsStored}
use Rattle.mail_model.specs.Told.{Mail}
use Rattle.mail_base.specs.declared.filing.Begun.{Begun}
use Rattle.mail_base.specs.declared.filing.Filing.{Filing}
use Rattle.mail_base.specs.declared.filing.CallKind.{CallKind}
use Rattle.mail_base.specs.declared.filing.CallKind.TheVariants as kinds
use Rattle.session_model.specs.Calls as model
use Rattle.session_model.specs.Calls.Call.{Deliver, Login, Fetch, Strike}
use Rattle.session_model.specs.Books.{struck_by}
use Rattle.call_tickets.specs.Tells.{TellsMore}
use Rattle.call_tickets.specs.Passes.{PassKnows, IsQuiet, NoneFell, with_leave}
use Rattle.call_tickets.specs.declared.desk.DeskTicket.{DeskTicket}
use Rattle.call_tickets.specs.declared.desk.DeskFault.{DeskFault}
use Rattle.call_tickets.specs.declared.desk.DeskFault.TheVariants.{Down, Worn, NoMemory}

-- The message is filed as it was told, with its trace lines.
pub record IsFilingOf (mail : Mail) (filing : Filing) : Type 0 where
  pub octets : List ℕ
  pub stored : IsStored mail filing.id filing.seconds octets
  pub users : filing.users ≡ mail.mailboxes
  pub size : filing.length ≡ length octets
  pub digest : filing.digest ≡ sha256 octets

-- a delivery filed nothing, or this message
abbrev pub FilingFits : Mail → Option Filing → Type 0
FilingFits mail None = ⊤
FilingFits mail (Some filing) = IsFilingOf mail filing

-- the kind of the call
abbrev pub IsKindFor : model.Call → CallKind → Type 0
IsKindFor (Deliver mail) kind = kind ≡ kinds.Deliver
IsKindFor (Login user given) kind = kind ≡ kinds.Login
IsKindFor (Fetch user id) kind = kind ≡ kinds.Fetch
IsKindFor (Strike user ids) kind = kind ≡ kinds.Strike

-- what the call filed, if it is a delivery
abbrev pub FilesFor : model.Call → Option Filing → Type 0
FilesFor (Deliver mail) filing = FilingFits mail filing
FilesFor (Login user given) filing = ⊤
FilesFor (Fetch user id) filing = ⊤
FilesFor (Strike user ids) filing = ⊤

-- what stands under the ticket is this call
abbrev pub IsBegunFor : model.Call → Begun → Type 0
IsBegunFor call begun = IsKindFor call begun.kind × FilesFor call begun.filing

-- The call was begun: its ticket is one of its kind, and the copies that it is to delete are in the book. A delivery filed its message, where the pass tells still.
pub record HasBegun (call : model.Call) (ticket : DeskTicket) (old new : PassKnows) : Type 0 where
  pub kind : IsKindFor call ticket.begun.kind
  pub files : IfSome new.acked (λ told. FilesFor call ticket.begun.filing)
  pub acked : TellsMore old.acked [] new.acked
  pub struck : TellsMore old.struck (struck_by call) new.struck
  pub fell : NoneFell old.counts new.counts

-- why a desk refused, by its counts
abbrev pub RefusalCounted : DeskFault → PassKnows → PassKnows → Type 0
RefusalCounted Down old new = Rose old.counts.down new.counts.down
RefusalCounted Worn old new = Rose old.counts.worn new.counts.worn
RefusalCounted NoMemory old new = ⊤

-- what came of beginning a call
abbrev pub DeskBegins : model.Call → Result DeskTicket DeskFault → PassKnows → PassKnows → Type 0
DeskBegins call (Ok ticket) old new = HasBegun call ticket old new
DeskBegins call (Err why) old new = IsQuiet old new × RefusalCounted why old new

-- a Leave was begun, once
pub record HasLeft (old new : PassKnows) : Type 0 where
  pub acked : TellsMore old.acked [] new.acked
  pub struck : TellsMore old.struck [] new.struck
  pub fell : NoneFell (with_leave old.counts) new.counts

-- what came of beginning a Leave
abbrev pub DeskLeaves : Result (Unit {0}) DeskFault → PassKnows → PassKnows → Type 0
DeskLeaves (Ok done) old new = HasLeft old new
DeskLeaves (Err why) old new = IsQuiet old new × RefusalCounted why old new
