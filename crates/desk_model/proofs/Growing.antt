-- What a pass knows of a call within which it may cease to tell.
use Rattle.std.proofs.Common.{List, Option, Some, None}
use Rattle.std.specs.Prelude.{Result, Ok, Err}
use Rattle.mail_model.specs.Book.{BookEntry, Acked}
use Rattle.mail_base.specs.declared.filing.Begun.{Begun}
use Rattle.mail_base.specs.declared.filing.Filing.{Filing}
use Rattle.session_model.specs.Calls as model
use Rattle.session_model.specs.Calls.Answer.{Stored, Listed, Wrong, InUse, NoProfile, Part, GoneAlready, Dropped, Failed}
use Rattle.call_tickets.specs.Seen.{answer_seen}
use Rattle.call_tickets.specs.Tells.{TellsMore}
use Rattle.call_tickets.specs.Passes.{known_to, IsQuiet, NoneFell}
use Rattle.call_tickets.specs.Begins.{DeskBegins, DeskLeaves}
use Rattle.call_tickets.specs.Asks.{AcksFor, DeskAsks, OnlyRefuses}
use Rattle.call_tickets.specs.declared.answer.Ask.{Ask}
use Rattle.call_tickets.specs.declared.answer.Ask.TheVariants.{Pending, Done}
use Rattle.call_tickets.specs.declared.desk.DeskFault.{DeskFault}
use Rattle.call_tickets.specs.declared.desk.DeskFault.TheVariants.{Down, Worn, NoMemory}
use Rattle.call_tickets.specs.declared.desk.DeskTicket.{DeskTicket}
use Rattle.call_tickets.specs.declared.tally.Tally.{Tally}
use Rattle.desk_model.specs.Added.{AreQuiet}
use Rattle.desk_model.specs.Entries.{BeginsWith, AsksWith}
use Rattle.desk_model.specs.Growing.{GrowsBy, BeginsInKind, AnswersInKind}
use Rattle.desk_model.specs.Tallies.{IsNeverDown, RefusalCounts, AskCounts, LeaveCounts}
use Rattle.desk_model.proofs.Knowing as knows

-- where the pass tells still, it told before, and its own entries grew by what was added
pub grows_by : (P : List BookEntry → Type 0) (own own' : Option (List BookEntry)) (added : List BookEntry) → TellsMore own added own' → P added → GrowsBy P own own'
grows_by P own None added grew is = tt
grows_by P own (Some told) added grew is = record { added = added; grew = grew; is = is }

acks_untold : (filed : Option Filing) (answer : model.Answer) (acked : Option (List Acked)) → AcksFor filed answer acked None
acks_untold filed (Stored id) acked = tt
acks_untold filed (Listed items) acked = tt
acks_untold filed Wrong acked = tt
acks_untold filed InUse acked = tt
acks_untold filed NoProfile acked = tt
acks_untold filed (Part octets) acked = tt
acks_untold filed GoneAlready acked = tt
acks_untold filed Dropped acked = tt
acks_untold filed Failed acked = tt

module _ (counts counts' : Tally) where
  pub quiet_grown : (own own' : Option (List BookEntry)) → GrowsBy AreQuiet own own' → NoneFell counts counts' → IsQuiet (known_to own counts) (known_to own' counts')
  quiet_grown own None grows fell = record { acked = tt; struck = tt; fell = fell }
  quiet_grown own (Some told) grows fell = knows.quiet_knows own (Some told) grows.added grows.grew counts counts' grows.is fell

  pub begins_grown : (asked : model.Call) (result : Result DeskTicket DeskFault) (own own' : Option (List BookEntry)) → BeginsInKind asked result → GrowsBy (BeginsWith asked result) own own'
      → NoneFell counts counts' → RefusalCounts result counts counts' → DeskBegins asked result (known_to own counts) (known_to own' counts')
  begins_grown asked result own (Some told) kind grows fell rose = knows.begins_known own (Some told) grows.added grows.grew counts counts' asked result grows.is fell rose
  begins_grown asked (Ok ticket) own None kind grows fell rose = record { kind = kind; files = tt; acked = tt; struck = tt; fell = fell }
  begins_grown asked (Err Down) own None kind grows fell rose = (quiet_grown own None tt fell, rose)
  begins_grown asked (Err Worn) own None kind grows fell rose = (quiet_grown own None tt fell, rose)
  begins_grown asked (Err NoMemory) own None kind grows fell rose = (quiet_grown own None tt fell, rose)

  pub asks_grown : (begun : Begun) (result : Result Ask DeskFault) (own own' : Option (List BookEntry)) → AnswersInKind begun result → GrowsBy (AsksWith begun result) own own'
      → NoneFell counts counts' → AskCounts result counts counts' → DeskAsks begun result (known_to own counts) (known_to own' counts')
  asks_grown begun result own (Some told) kind grows fell rose = knows.asks_known own (Some told) grows.added grows.grew counts counts' begun result grows.is fell rose
  asks_grown begun (Ok (Pending got wanted)) own None kind grows fell rose = quiet_grown own None tt fell
  asks_grown begun (Ok (Done answer)) own None kind grows fell rose = record {
    kind = kind;
    acked = acks_untold begun.filing (answer_seen answer) (known_to own counts).acked;
    struck = tt;
    fell = fell;
    rose = rose;
  }
  asks_grown begun (Err Down) own None kind grows fell rose = (quiet_grown own None tt fell, rose)
  asks_grown begun (Err Worn) own None kind grows fell rose = (quiet_grown own None tt fell, rose)
  asks_grown begun (Err NoMemory) own None kind grows fell rose = (quiet_grown own None tt fell, rose)

  pub leaves_grown : (result : Result (Unit {0}) DeskFault) (own own' : Option (List BookEntry)) → GrowsBy AreQuiet own own' → LeaveCounts result counts counts'
      → DeskLeaves result (known_to own counts) (known_to own' counts')
  leaves_grown result own (Some told) grows counted = knows.leaves_known own (Some told) grows.added grows.grew counts counts' result grows.is counted
  leaves_grown (Ok done) own None grows counted = record { acked = tt; struck = tt; fell = counted }
  leaves_grown (Err Down) own None grows (fell, rose) = (quiet_grown own None tt fell, rose)
  leaves_grown (Err Worn) own None grows (fell, rose) = (quiet_grown own None tt fell, rose)
  leaves_grown (Err NoMemory) own None grows (fell, rose) = (quiet_grown own None tt fell, rose)

  pub refuses_grown : {A : Type 0} (result : Result A DeskFault) (own own' : Option (List BookEntry)) → IsNeverDown result → GrowsBy AreQuiet own own' → NoneFell counts counts'
      → RefusalCounts result counts counts' → OnlyRefuses result (known_to own counts) (known_to own' counts')
  refuses_grown result own (Some told) never grows fell rose = knows.refuses_known own (Some told) grows.added grows.grew counts counts' result never grows.is fell rose
  refuses_grown (Ok done) own None never grows fell rose = quiet_grown own None tt fell
  refuses_grown (Err Down) own None never grows fell rose = absurd never
  refuses_grown (Err Worn) own None never grows fell rose = (quiet_grown own None tt fell, rose)
  refuses_grown (Err NoMemory) own None never grows fell rose = quiet_grown own None tt fell
