-- What a desk answers to one who asks, as its pass knows it.
use Rattle.std.specs.Prelude.{◌≡◌, ℕ, List, [], map, ⊤, Option, Some, IfSome, Result, Ok, Err}
use Rattle.io_edge.specs.Causes.{Rose}
use Rattle.mail_model.specs.Identity.{Id}
use Rattle.mail_model.specs.Book.{Acked}
use Rattle.mail_base.specs.declared.filing.Begun.{Begun}
use Rattle.mail_base.specs.declared.filing.Filing.{Filing}
use Rattle.mail_base.specs.declared.filing.CallKind.{CallKind}
use Rattle.mail_base.specs.declared.filing.CallKind.TheVariants as kinds
use Rattle.session_model.specs.Calls as model
use Rattle.session_model.specs.Calls.Answer.{Stored, Listed, Wrong, InUse, NoProfile, Part, GoneAlready, Dropped, Failed}
use Rattle.call_tickets.specs.Seen.{answer_seen}
use Rattle.call_tickets.specs.declared.answer.Ask.{Ask}
use Rattle.call_tickets.specs.declared.answer.Ask.TheVariants.{Pending, Done}
use Rattle.call_tickets.specs.Tells.{TellsMore}
use Rattle.call_tickets.specs.Passes.{PassKnows, IsQuiet, NoneFell, AnswerCounted}
use Rattle.call_tickets.specs.Begins.{RefusalCounted}
use Rattle.call_tickets.specs.declared.desk.DeskFault.{DeskFault}
use Rattle.call_tickets.specs.declared.desk.DeskFault.TheVariants.{Down, Worn, NoMemory}

-- an answer that a call of this kind has
abbrev pub FitsKind : CallKind → model.Answer → Type 0
FitsKind kinds.Deliver (Stored id) = ⊤
FitsKind kinds.Deliver Failed = ⊤
FitsKind kinds.Login (Listed items) = ⊤
FitsKind kinds.Login Wrong = ⊤
FitsKind kinds.Login InUse = ⊤
FitsKind kinds.Login NoProfile = ⊤
FitsKind kinds.Login Failed = ⊤
FitsKind kinds.Fetch (Part octets) = ⊤
FitsKind kinds.Fetch GoneAlready = ⊤
FitsKind kinds.Fetch Failed = ⊤
FitsKind kinds.Strike Dropped = ⊤
FitsKind kinds.Strike Failed = ⊤
FitsKind kind answer = ⊥

-- one copy for each user of the filing
abbrev pub filed_copies : Filing → ℕ → List Acked
filed_copies filing confirmers =
    map (λ user. record { user = user; id = filing.id; seconds = filing.seconds; size = filing.length; digest = filing.digest; confirmers = confirmers }) filing.users

-- A message that is stored was filed, and its copies are acknowledged, as is told.
pub record IsAckedAs (filed : Option Filing) (id : Id) (old : Option (List Acked)) (told : List Acked) : Type 0 where
  pub filing : Filing
  pub was : filed ≡ Some filing
  pub is : filing.id ≡ id
  pub confirmers : ℕ
  pub acked : TellsMore old (filed_copies filing confirmers) (Some told)

-- What an answer acknowledges, where the pass tells still: that of a message that is stored its copies, and no other answer any.
abbrev pub AcksFor : Option Filing → model.Answer → Option (List Acked) → Option (List Acked) → Type 0
AcksFor filed (Stored id) old new = IfSome new (λ told. IsAckedAs filed id old told)
AcksFor filed (Listed items) old new = TellsMore old [] new
AcksFor filed Wrong old new = TellsMore old [] new
AcksFor filed InUse old new = TellsMore old [] new
AcksFor filed NoProfile old new = TellsMore old [] new
AcksFor filed (Part octets) old new = TellsMore old [] new
AcksFor filed GoneAlready old new = TellsMore old [] new
AcksFor filed Dropped old new = TellsMore old [] new
AcksFor filed Failed old new = TellsMore old [] new

-- the answer came, and was counted
pub record HasAnswered (begun : Begun) (answer : model.Answer) (old new : PassKnows) : Type 0 where
  pub kind : FitsKind begun.kind answer
  pub acked : AcksFor begun.filing answer old.acked new.acked
  pub struck : TellsMore old.struck [] new.struck
  pub fell : NoneFell old.counts new.counts
  pub rose : AnswerCounted answer old.counts new.counts

-- what came of asking
abbrev pub DeskAsks : Begun → Result Ask DeskFault → PassKnows → PassKnows → Type 0
DeskAsks begun (Ok (Pending got wanted)) old new = IsQuiet old new
DeskAsks begun (Ok (Done answer)) old new = HasAnswered begun (answer_seen answer) old new
DeskAsks begun (Err why) old new = IsQuiet old new × RefusalCounted why old new

-- nothing came of it but that it may have been refused, and not for a node that is down
abbrev pub OnlyRefuses : {A : Type 0} → Result A DeskFault → PassKnows → PassKnows → Type 0
OnlyRefuses (Ok did) old new = IsQuiet old new
OnlyRefuses (Err Down) old new = ⊥
OnlyRefuses (Err Worn) old new = IsQuiet old new × Rose old.counts.worn new.counts.worn
OnlyRefuses (Err NoMemory) old new = IsQuiet old new
