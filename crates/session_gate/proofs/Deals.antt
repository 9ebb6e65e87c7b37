-- A call that is begun and answered.
use Rattle.std.proofs.Common.{inl, inr, ◌≡◌, ◌≢◌, ℕ, List, [], length, Option, Some, None, Result, Ok, Err, refl, sym, ap, ◌∙◌, subst}
use Rattle.std.specs.Prelude.{map, IfSome}
use Rattle.sha2.specs.Sha256.{sha256}
use Rattle.io_edge.specs.Causes.{Rose}
use Rattle.mail_model.specs.Identity.{Id}
use Rattle.mail_model.specs.Told.{Mail}
use Rattle.mail_model.specs.Book.{Acked, copies_acked}
use Rattle.mail_base.specs.declared.filing.Begun.{Begun}
use Rattle.mail_base.specs.declared.filing.Filing.{Filing}
use Rattle.mail_base.specs.declared.filing.CallKind.{CallKind}
use Rattle.mail_base.specs.declared.filing.CallKind.TheVariants as kinds
use Rattle.session_model.specs.Calls as model
use Rattle.session_model.specs.Calls.{IsAnswerTo}
use Rattle.session_model.specs.Calls.Call.{Deliver, Login, Fetch, Strike}
use Rattle.session_model.specs.Calls.Answer.{Stored, Listed, Wrong, InUse, NoProfile, Part, GoneAlready, Dropped, Failed}
use Rattle.call_tickets.specs.Seen.{answer_seen}
use Rattle.call_tickets.specs.Tells.{TellsMore}
use Rattle.call_tickets.specs.Passes.{PassKnows, IsQuiet}
use Rattle.call_tickets.proofs.Telling.{tells_then, tells_still}
use Rattle.call_tickets.specs.Begins.{HasBegun, IsKindFor, FilesFor, IsFilingOf, FilingFits}
use Rattle.session_model.specs.Books.{struck_by}
use Rattle.call_tickets.specs.Asks.{HasAnswered, FitsKind, AcksFor, IsAckedAs, filed_copies}
use Rattle.session_gate.specs.Deals.{HasAcked, Dealt, CallAcks, AreMessageCopies, ComesOf}
use Rattle.session_gate.specs.Deals.{Settles}
use Rattle.call_tickets.specs.declared.desk.DeskTicket.{DeskTicket}
use Rattle.session_gate.specs.declared.calls.Dealing.{Dealing}
use Rattle.session_gate.specs.declared.calls.Dealing.TheVariants as dealings
use Rattle.session_gate.specs.declared.stop.Stop.{Stop}
use Rattle.session_gate.proofs.Knows.{fell_on, count_before, rose_before, acks_before, acks_none}

-- an answer of the kind that was begun is one to the call
answers : (call : model.Call) (begun : Begun) (answer : model.Answer) → IsKindFor call begun.kind → FitsKind begun.kind answer → IsAnswerTo call answer
answers (Deliver mail) begun answer is kind = by_answer answer (subst (λ (k : CallKind). FitsKind k answer) is kind)
  where
    by_answer : (a : model.Answer) → FitsKind kinds.Deliver a → IsAnswerTo (Deliver mail) a
    by_answer (Stored id) k = tt
    by_answer (Listed items) k = absurd k
    by_answer Wrong k = absurd k
    by_answer InUse k = absurd k
    by_answer NoProfile k = absurd k
    by_answer (Part octets) k = absurd k
    by_answer GoneAlready k = absurd k
    by_answer Dropped k = absurd k
    by_answer Failed k = tt
answers (Login user given) begun answer is kind = by_answer answer (subst (λ (k : CallKind). FitsKind k answer) is kind)
  where
    by_answer : (a : model.Answer) → FitsKind kinds.Login a → IsAnswerTo (Login user given) a
    by_answer (Stored id) k = absurd k
    by_answer (Listed items) k = tt
    by_answer Wrong k = tt
    by_answer InUse k = tt
    by_answer NoProfile k = tt
    by_answer (Part octets) k = absurd k
    by_answer GoneAlready k = absurd k
    by_answer Dropped k = absurd k
    by_answer Failed k = tt
answers (Fetch user id) begun answer is kind = by_answer answer (subst (λ (k : CallKind). FitsKind k answer) is kind)
  where
    by_answer : (a : model.Answer) → FitsKind kinds.Fetch a → IsAnswerTo (Fetch user id) a
    by_answer (Stored i) k = absurd k
    by_answer (Listed items) k = absurd k
    by_answer Wrong k = absurd k
    by_answer InUse k = absurd k
    by_answer NoProfile k = absurd k
    by_answer (Part octets) k = tt
    by_answer GoneAlready k = tt
    by_answer Dropped k = absurd k
    by_answer Failed k = tt
answers (Strike user ids) begun answer is kind = by_answer answer (subst (λ (k : CallKind). FitsKind k answer) is kind)
  where
    by_answer : (a : model.Answer) → FitsKind kinds.Strike a → IsAnswerTo (Strike user ids) a
    by_answer (Stored i) k = absurd k
    by_answer (Listed items) k = absurd k
    by_answer Wrong k = absurd k
    by_answer InUse k = absurd k
    by_answer NoProfile k = absurd k
    by_answer (Part octets) k = absurd k
    by_answer GoneAlready k = absurd k
    by_answer Dropped k = tt
    by_answer Failed k = tt

copies_alike : (mail : Mail) (id : Id) (filing : Filing) (confirmers : ℕ) (f : IsFilingOf mail filing) → filing.id ≡ id
    → filed_copies filing confirmers ≡ copies_acked id filing.seconds f.octets confirmers mail.mailboxes
copies_alike mail id filing confirmers f is = alike filing.id id filing.length (length f.octets) filing.digest (sha256 f.octets) filing.users mail.mailboxes is f.size f.digest f.users
  where
    alike : (i j : Id) (n m : ℕ) (d e : List ℕ) (us vs : List (List ℕ)) → i ≡ j → n ≡ m → d ≡ e → us ≡ vs
        → map {B = Acked} (λ user. record { user = user; id = i; seconds = filing.seconds; size = n; digest = d; confirmers = confirmers }) us
        ≡ map {B = Acked} (λ user. record { user = user; id = j; seconds = filing.seconds; size = m; digest = e; confirmers = confirmers }) vs
    alike i j n m d e us vs a b c w = rw (a, b, c, w) refl

-- the copies of a filing are those of the message
filing_copies : (mail : Mail) (id : Id) (filed : Option Filing) (filing : Filing) (confirmers : ℕ) → FilingFits mail filed → filed ≡ Some filing → filing.id ≡ id
    → AreMessageCopies mail id (filed_copies filing confirmers)
filing_copies mail id filed filing confirmers fits was is =
    let f : IsFilingOf mail filing = subst (FilingFits mail) was fits in
    record {
      seconds = filing.seconds;
      confirmers = confirmers;
      octets = f.octets;
      stored = subst (λ (i : Id). Rattle.mail_model.specs.Mail.IsStored mail i filing.seconds f.octets) is f.stored;
      are = copies_alike mail id filing confirmers f is;
    }

-- what holds where something was told, holds where something is told after it
told_before : {P : Type 0} (old : Option (List Acked)) (more told : List Acked) → IfSome old (λ were. P) → TellsMore old more (Some told) → P
told_before None more told holds tells = absurd (let never : Some told ≡ None = tells in cc)
told_before (Some were) more told holds tells = holds

stored_acks : (mail : Mail) (id : Id) (filed : Option Filing) (old new : Option (List Acked)) → IfSome old (λ told. FilingFits mail filed) → IfSome new (λ told. IsAckedAs filed id old told)
    → IfSome new (λ told. HasAcked old (Some (Deliver mail)) (Some (Stored id)) told)
stored_acks mail id filed old None files acked = tt
stored_acks mail id filed old (Some told) files acked = record {
  copies = filed_copies acked.filing acked.confirmers;
  are = filing_copies mail id filed acked.filing acked.confirmers (told_before old (filed_copies acked.filing acked.confirmers) told files acked.acked) acked.was acked.is;
  acked = acked.acked;
}

-- what an answer acknowledges
acks : (call : model.Call) (begun : Begun) (answer : model.Answer) (old new : Option (List Acked)) → IfSome old (λ told. FilesFor call begun.filing) → IsAnswerTo call answer
    → AcksFor begun.filing answer old new → IfSome new (λ told. HasAcked old (Some call) (Some answer) told)
acks (Deliver mail) begun (Stored id) old new files to acked = stored_acks mail id begun.filing old new files acked
acks (Deliver mail) begun Failed old new files to acked = acks_none old new (Some (Deliver mail)) (Some Failed) refl acked
acks (Login user given) begun (Listed items) old new files to acked = acks_none old new (Some (Login user given)) (Some (Listed items)) refl acked
acks (Login user given) begun Wrong old new files to acked = acks_none old new (Some (Login user given)) (Some Wrong) refl acked
acks (Login user given) begun InUse old new files to acked = acks_none old new (Some (Login user given)) (Some InUse) refl acked
acks (Login user given) begun NoProfile old new files to acked = acks_none old new (Some (Login user given)) (Some NoProfile) refl acked
acks (Login user given) begun Failed old new files to acked = acks_none old new (Some (Login user given)) (Some Failed) refl acked
acks (Fetch user id) begun (Part octets) old new files to acked = acks_none old new (Some (Fetch user id)) (Some (Part octets)) refl acked
acks (Fetch user id) begun GoneAlready old new files to acked = acks_none old new (Some (Fetch user id)) (Some GoneAlready) refl acked
acks (Fetch user id) begun Failed old new files to acked = acks_none old new (Some (Fetch user id)) (Some Failed) refl acked
acks (Strike user ids) begun Dropped old new files to acked = acks_none old new (Some (Strike user ids)) (Some Dropped) refl acked
acks (Strike user ids) begun Failed old new files to acked = acks_none old new (Some (Strike user ids)) (Some Failed) refl acked
acks (Deliver mail) begun (Listed items) old new files to acked = absurd to
acks (Deliver mail) begun Wrong old new files to acked = absurd to
acks (Deliver mail) begun InUse old new files to acked = absurd to
acks (Deliver mail) begun NoProfile old new files to acked = absurd to
acks (Deliver mail) begun (Part octets) old new files to acked = absurd to
acks (Deliver mail) begun GoneAlready old new files to acked = absurd to
acks (Deliver mail) begun Dropped old new files to acked = absurd to
acks (Login user given) begun (Stored i) old new files to acked = absurd to
acks (Login user given) begun (Part octets) old new files to acked = absurd to
acks (Login user given) begun GoneAlready old new files to acked = absurd to
acks (Login user given) begun Dropped old new files to acked = absurd to
acks (Fetch user id) begun (Stored i) old new files to acked = absurd to
acks (Fetch user id) begun (Listed items) old new files to acked = absurd to
acks (Fetch user id) begun Wrong old new files to acked = absurd to
acks (Fetch user id) begun InUse old new files to acked = absurd to
acks (Fetch user id) begun NoProfile old new files to acked = absurd to
acks (Fetch user id) begun Dropped old new files to acked = absurd to
acks (Strike user ids) begun (Stored i) old new files to acked = absurd to
acks (Strike user ids) begun (Listed items) old new files to acked = absurd to
acks (Strike user ids) begun Wrong old new files to acked = absurd to
acks (Strike user ids) begun InUse old new files to acked = absurd to
acks (Strike user ids) begun NoProfile old new files to acked = absurd to
acks (Strike user ids) begun (Part octets) old new files to acked = absurd to
acks (Strike user ids) begun GoneAlready old new files to acked = absurd to

-- a call that failed acknowledged nothing
failed_copies : (c : model.Call) → CallAcks c Failed []
failed_copies (Deliver mail) = refl
failed_copies (Login user given) = refl
failed_copies (Fetch user id) = refl
failed_copies (Strike user ids) = refl

module _ (call : model.Call) (ticket : DeskTicket) (old mid new : PassKnows) (began : HasBegun call ticket old mid) where
  -- it was answered
  pub answered_dealt : (answer : model.Answer) → HasAnswered ticket.begun answer mid new → Dealt old (Some call) (Some answer) new
  answered_dealt answer a =
      let to = answers call ticket.begun answer began.kind a.kind in
      record {
        acked = acks_before old.acked mid.acked new.acked (Some call) (Some answer) began.acked (acks call ticket.begun answer mid.acked new.acked began.files to a.acked);
        strikes = struck_by call;
        asked = inl refl;
        struck = tells_still old.struck mid.struck new.struck (struck_by call) began.struck a.struck;
        fell = fell_on _ _ _ began.fell a.fell;
        rose = count_before answer _ _ _ began.fell a.rose;
      }

  pub answered_to : (answer : model.Answer) → HasAnswered ticket.begun answer mid new → IsAnswerTo call answer
  answered_to answer a = answers call ticket.begun answer began.kind a.kind

  -- it was given up
  pub given_up_dealt : IsQuiet mid new → Rose mid.counts.worn new.counts.worn → Dealt old (Some call) (Some Failed) new
  given_up_dealt q rose = record {
    acked = acks_none old.acked new.acked (Some call) (Some Failed) (failed_copies call) (tells_then old.acked mid.acked new.acked [] began.acked q.acked);
    strikes = struck_by call;
    asked = inl refl;
    struck = tells_still old.struck mid.struck new.struck (struck_by call) began.struck q.struck;
    fell = fell_on _ _ _ began.fell q.fell;
    rose = inr (rose_before _ _ _ began.fell.worn rose);
  }

  -- it has no answer
  pub unanswered_dealt : IsQuiet mid new → Dealt old (Some call) None new
  unanswered_dealt q = record {
    acked = acks_none old.acked new.acked (Some call) None refl (tells_then old.acked mid.acked new.acked [] began.acked q.acked);
    strikes = struck_by call;
    asked = inl refl;
    struck = tells_still old.struck mid.struck new.struck (struck_by call) began.struck q.struck;
    fell = fell_on _ _ _ began.fell q.fell;
    rose = tt;
  }

  -- whatever became of it
  pub awaited_settled : (result : Result Dealing Stop) → ComesOf ticket.begun result mid new → Settles call result old new
  awaited_settled (Ok (dealings.Answered answer)) a = (answered_dealt (answer_seen answer) a, answered_to (answer_seen answer) a)
  awaited_settled (Ok dealings.GivenUp) a = given_up_dealt a.0 a.1
  awaited_settled (Ok dealings.Down) a = (unanswered_dealt a.0, rose_before _ _ _ began.fell.down a.1)
  awaited_settled (Err why) a = unanswered_dealt a

-- its beginning was refused, since a number was used up
pub worn_dealt : (call : model.Call) (old new : PassKnows) → IsQuiet old new → Rose old.counts.worn new.counts.worn → Dealt old (Some call) (Some Failed) new
worn_dealt call old new q rose = record {
  acked = acks_none old.acked new.acked (Some call) (Some Failed) (failed_copies call) q.acked;
  strikes = [];
  asked = inr (refl, not_dropped);
  struck = q.struck;
  fell = q.fell;
  rose = inr rose;
}
  where
    not_dropped : Some Failed ≢ Some Dropped
    not_dropped is = cc

-- or for another reason
pub refused_dealt : (call : model.Call) (old new : PassKnows) → IsQuiet old new → Dealt old (Some call) None new
refused_dealt call old new q = record {
  acked = acks_none old.acked new.acked (Some call) None refl q.acked;
  strikes = [];
  asked = inr (refl, not_dropped);
  struck = q.struck;
  fell = q.fell;
  rose = tt;
}
  where
    not_dropped : None ≢ Some Dropped
    not_dropped is = cc
