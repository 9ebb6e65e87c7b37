-- What each call of a desk adds to the book of its world.
use Rattle.std.specs.Prelude.{◌≡◌, ℕ, List, [], Option, Some, Result, Ok, Err}
use Rattle.mail_model.specs.Identity.{Id}
use Rattle.mail_model.specs.Book.{BookEntry, Acked, acked_in, struck_in}
use Rattle.mail_base.specs.declared.filing.Begun.{Begun}
use Rattle.mail_base.specs.declared.filing.Filing.{Filing}
use Rattle.session_model.specs.Calls as model
use Rattle.session_model.specs.Calls.Answer.{Stored, Listed, Wrong, InUse, NoProfile, Part, GoneAlready, Dropped, Failed}
use Rattle.session_model.specs.Books.{struck_by}
use Rattle.call_tickets.specs.Seen.{answer_seen}
use Rattle.call_tickets.specs.Begins.{IsBegunFor}
use Rattle.call_tickets.specs.Asks.{FitsKind, filed_copies}
use Rattle.call_tickets.specs.declared.answer.Ask.{Ask}
use Rattle.call_tickets.specs.declared.answer.Ask.TheVariants.{Pending, Done}
use Rattle.call_tickets.specs.declared.desk.DeskFault.{DeskFault}
use Rattle.call_tickets.specs.declared.desk.DeskTicket.{DeskTicket}
use Rattle.desk_model.specs.Added.{AreQuiet, AreStrikes}

-- a call that has begun struck what it is to delete; one that was refused added nothing
abbrev pub BeginsWith : model.Call → Result DeskTicket DeskFault → List BookEntry → Type 0
BeginsWith call (Ok ticket) added = IsBegunFor call ticket.begun × AreStrikes (struck_by call) added
BeginsWith call (Err why) added = AreQuiet added

-- a message is stored: it was filed, and its copies are acknowledged
pub record IsStoredAs (filed : Option Filing) (id : Id) (acked : List Acked) : Type 0 where
  pub filing : Filing
  pub was : filed ≡ Some filing
  pub is : filing.id ≡ id
  pub confirmers : ℕ
  pub are : acked ≡ filed_copies filing confirmers

-- no other answer acknowledges any
abbrev pub AckedBy : Option Filing → model.Answer → List Acked → Type 0
AckedBy filed (Stored id) acked = IsStoredAs filed id acked
AckedBy filed (Listed items) acked = acked ≡ []
AckedBy filed Wrong acked = acked ≡ []
AckedBy filed InUse acked = acked ≡ []
AckedBy filed NoProfile acked = acked ≡ []
AckedBy filed (Part octets) acked = acked ≡ []
AckedBy filed GoneAlready acked = acked ≡ []
AckedBy filed Dropped acked = acked ≡ []
AckedBy filed Failed acked = acked ≡ []

-- the answer to a call, and what it acknowledged
pub record AnswersWith (begun : Begun) (answer : model.Answer) (added : List BookEntry) : Type 0 where
  pub kind : FitsKind begun.kind answer
  pub acked : AckedBy begun.filing answer (acked_in added)
  pub struck : struck_in added ≡ []

abbrev pub AsksWith : Begun → Result Ask DeskFault → List BookEntry → Type 0
AsksWith begun (Ok (Pending got wanted)) added = AreQuiet added
AsksWith begun (Ok (Done answer)) added = AnswersWith begun (answer_seen answer) added
AsksWith begun (Err why) added = AreQuiet added
