-- What a pass knows once its own entries have grown.
use Rattle.std.proofs.Common.{◌≡◌, ℕ, List, [], ◌∷◌, ◌++◌, append_assoc, Option, Some, None, refl, sym, ap, ◌∙◌, subst}
use Rattle.std.specs.Prelude.{Result, Ok, Err, IfSome, length, drop}
use Rattle.std.specs.Option.{option_map}
use Rattle.mail_model.specs.Identity.{Id}
use Rattle.mail_model.specs.Book.{BookEntry, Acked, acked_in, struck_in}
use Rattle.mail_base.specs.declared.filing.Begun.{Begun}
use Rattle.mail_base.specs.declared.filing.Filing.{Filing}
use Rattle.session_model.specs.Calls as model
use Rattle.session_model.specs.Calls.Answer.{Stored, Listed, Wrong, InUse, NoProfile, Part, GoneAlready, Dropped, Failed}
use Rattle.session_model.specs.Books.{struck_by}
use Rattle.call_tickets.specs.Seen.{answer_seen}
use Rattle.call_tickets.specs.Tells.{TellsMore}
use Rattle.call_tickets.specs.Passes.{PassKnows, known_to, IsQuiet, NoneFell}
use Rattle.call_tickets.specs.Begins.{DeskBegins, DeskLeaves}
use Rattle.call_tickets.specs.Asks.{AcksFor, IsAckedAs, DeskAsks, OnlyRefuses, filed_copies}
use Rattle.call_tickets.specs.declared.answer.Ask.{Ask}
use Rattle.call_tickets.specs.declared.answer.Ask.TheVariants.{Pending, Done}
use Rattle.call_tickets.specs.declared.desk.DeskFault.{DeskFault}
use Rattle.call_tickets.specs.declared.desk.DeskFault.TheVariants.{Down, Worn, NoMemory}
use Rattle.call_tickets.specs.declared.desk.DeskTicket.{DeskTicket}
use Rattle.call_tickets.specs.declared.tally.Tally.{Tally}
use Rattle.cluster_owes.proofs.Books.{acked_both, struck_both}
use Rattle.desk_model.specs.Added.{IsLonger, AreQuiet}
use Rattle.desk_model.specs.Entries.{BeginsWith, IsStoredAs, AckedBy, AsksWith}
use Rattle.desk_model.specs.Tallies.{IsNeverDown}
use Rattle.desk_model.specs.Tallies.{RefusalCounts, AskCounts, LeaveCounts}

-- what holds, holds where something is told
told_so : {X P : Type 0} (told : Option (List X)) → P → IfSome told (λ xs. P)
told_so None holds = tt
told_so (Some xs) holds = holds

-- own entries that have grown tell more copies, of each kind
acked_told : (own own' : Option (List BookEntry)) (added : List BookEntry) → TellsMore own added own' → TellsMore (option_map acked_in own) (acked_in added) (option_map acked_in own')
acked_told own None added grew = tt
acked_told None (Some told) added grew = absurd (let never : Some told ≡ None = grew in cc)
acked_told (Some entries) (Some told) added grew = ap (λ (o : Option (List BookEntry)). option_map acked_in o) grew ∙ ap (λ (l : List Acked). Some l) (acked_both entries added)

struck_told : (own own' : Option (List BookEntry)) (added : List BookEntry) → TellsMore own added own' → TellsMore (option_map struck_in own) (struck_in added) (option_map struck_in own')
struck_told own None added grew = tt
struck_told None (Some told) added grew = absurd (let never : Some told ≡ None = grew in cc)
struck_told (Some entries) (Some told) added grew = ap (λ (o : Option (List BookEntry)). option_map struck_in o) grew ∙ ap (λ (l : List (List ℕ × Id)). Some l) (struck_both entries added)

stored_known : (filed : Option Filing) (id : Id) (old new : Option (List Acked)) {acked : List Acked} (stored : IsStoredAs filed id acked) → TellsMore old (filed_copies stored.filing stored.confirmers) new
    → IfSome new (λ told. IsAckedAs filed id old told)
stored_known filed id old None stored tells = tt
stored_known filed id old (Some told) stored tells = record { filing = stored.filing; was = stored.was; is = stored.is; confirmers = stored.confirmers; acked = tells }

-- The own entries of a pass, where told, and its counts, before and after. A pass may cease to tell.
module _ (own own' : Option (List BookEntry)) (added : List BookEntry) (grew : TellsMore own added own') (counts counts' : Tally) where
  abbrev old : PassKnows
  old = known_to own counts

  abbrev new : PassKnows
  new = known_to own' counts'

  pub acked_more : TellsMore old.acked (acked_in added) new.acked
  acked_more = acked_told own own' added grew

  pub struck_more : TellsMore old.struck (struck_in added) new.struck
  struck_more = struck_told own own' added grew

  acked_so : (more : List Acked) → acked_in added ≡ more → TellsMore old.acked more new.acked
  acked_so more is = subst (λ l. TellsMore old.acked l new.acked) is acked_more

  struck_so : (more : List (List ℕ × Id)) → struck_in added ≡ more → TellsMore old.struck more new.struck
  struck_so more is = subst (λ l. TellsMore old.struck l new.struck) is struck_more

  pub quiet_knows : AreQuiet added → NoneFell counts counts' → IsQuiet old new
  quiet_knows quiet fell = record { acked = acked_so [] quiet.acked; struck = struck_so [] quiet.struck; fell = fell }

  pub begins_known : (asked : model.Call) (result : Result DeskTicket DeskFault) → BeginsWith asked result added → NoneFell counts counts' → RefusalCounts result counts counts' → DeskBegins asked result old new
  begins_known asked (Ok ticket) (is_for, strikes) fell rose = record {
    kind = is_for.0;
    files = told_so new.acked is_for.1;
    acked = acked_so [] strikes.acked;
    struck = struck_so (struck_by asked) strikes.struck;
    fell = fell;
  }
  begins_known asked (Err Down) quiet fell rose = (quiet_knows quiet fell, rose)
  begins_known asked (Err Worn) quiet fell rose = (quiet_knows quiet fell, rose)
  begins_known asked (Err NoMemory) quiet fell rose = (quiet_knows quiet fell, rose)

  acks_known : (filed : Option Filing) (answer : model.Answer) → AckedBy filed answer (acked_in added) → AcksFor filed answer old.acked new.acked
  acks_known filed (Stored id) acked = stored_known filed id old.acked new.acked acked (acked_so (filed_copies acked.filing acked.confirmers) acked.are)
  acks_known filed (Listed items) acked = acked_so [] acked
  acks_known filed Wrong acked = acked_so [] acked
  acks_known filed InUse acked = acked_so [] acked
  acks_known filed NoProfile acked = acked_so [] acked
  acks_known filed (Part octets) acked = acked_so [] acked
  acks_known filed GoneAlready acked = acked_so [] acked
  acks_known filed Dropped acked = acked_so [] acked
  acks_known filed Failed acked = acked_so [] acked

  pub asks_known : (begun : Begun) (result : Result Ask DeskFault) → AsksWith begun result added → NoneFell counts counts' → AskCounts result counts counts' → DeskAsks begun result old new
  asks_known begun (Ok (Pending got wanted)) quiet fell rose = quiet_knows quiet fell
  asks_known begun (Ok (Done answer)) answers fell rose = record {
    kind = answers.kind;
    acked = acks_known begun.filing (answer_seen answer) answers.acked;
    struck = struck_so [] answers.struck;
    fell = fell;
    rose = rose;
  }
  asks_known begun (Err Down) quiet fell rose = (quiet_knows quiet fell, rose)
  asks_known begun (Err Worn) quiet fell rose = (quiet_knows quiet fell, rose)
  asks_known begun (Err NoMemory) quiet fell rose = (quiet_knows quiet fell, rose)

  pub leaves_known : (result : Result (Unit {0}) DeskFault) → AreQuiet added → LeaveCounts result counts counts' → DeskLeaves result old new
  leaves_known (Ok done) quiet counted = record { acked = acked_so [] quiet.acked; struck = struck_so [] quiet.struck; fell = counted }
  leaves_known (Err Down) quiet (fell, rose) = (quiet_knows quiet fell, rose)
  leaves_known (Err Worn) quiet (fell, rose) = (quiet_knows quiet fell, rose)
  leaves_known (Err NoMemory) quiet (fell, rose) = (quiet_knows quiet fell, rose)

  pub refuses_known : {A : Type 0} (result : Result A DeskFault) → IsNeverDown result → AreQuiet added → NoneFell counts counts' → RefusalCounts result counts counts' → OnlyRefuses result old new
  refuses_known (Ok done) never quiet fell rose = quiet_knows quiet fell
  refuses_known (Err Down) never quiet fell rose = absurd never
  refuses_known (Err Worn) never quiet fell rose = (quiet_knows quiet fell, rose)
  refuses_known (Err NoMemory) never quiet fell rose = quiet_knows quiet fell

-- behind the entries of before
drop_front : (front more : List BookEntry) → drop (length front) (front ++ more) ≡ more
drop_front [] more = refl
drop_front (x ∷ front) more = drop_front front more

-- the book has grown, and so have the entries behind those of before
module _ (start old new added : List BookEntry) (longer : IsLonger start old) (grew : new ≡ old ++ added) where
  pub own_more : TellsMore (Some (drop (length start) old)) added (Some (drop (length start) new))
  own_more = ap Some (ap (λ b. drop (length start) b) (grew ∙ ap (λ b. b ++ added) longer.1 ∙ append_assoc start longer.0 added)
      ∙ drop_front start (longer.0 ++ added) ∙ ap (λ b. b ++ added) (sym (drop_front start longer.0) ∙ ap (λ b. drop (length start) b) (sym longer.1)))

  pub longer_more : IsLonger start new
  longer_more = (longer.0 ++ added, grew ∙ ap (λ b. b ++ added) longer.1 ∙ append_assoc start longer.0 added)
