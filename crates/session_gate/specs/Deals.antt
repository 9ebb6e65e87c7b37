-- What came of the calls of a session, one after another, as its pass knows it.
use Rattle.std.specs.Prelude.{◌≡◌, ◌≢◌, ◌⊎◌, ℕ, List, [], ◌∷◌, ⊤, Option, Some, None, IfSome, Result, Ok, Err}
use Rattle.io_edge.specs.Causes.{Rose}
use Rattle.mail_model.specs.Identity.{Id}
use Rattle.mail_model.specs.Mail.{IsStored}
use Rattle.mail_model.specs.Told.{Mail}
use Rattle.mail_model.specs.Book.{Acked, copies_acked}
use Rattle.mail_base.specs.declared.filing.Begun.{Begun}
use Rattle.session_model.specs.Calls as model
use Rattle.session_model.specs.Calls.{IsAnswerTo}
use Rattle.session_model.specs.Calls.Call.{Deliver, Login, Fetch, Strike}
use Rattle.session_model.specs.Calls.Answer.{Stored, Listed, Wrong, InUse, NoProfile, Part, GoneAlready, Dropped, Failed}
use Rattle.session_model.specs.Books.{struck_by}
use Rattle.session_model.specs.Talk.{Exchange}
use Rattle.call_tickets.specs.Seen.{answer_seen}
use Rattle.call_tickets.specs.Tells.{TellsMore}
use Rattle.call_tickets.specs.Passes.{PassKnows, IsQuiet, NoneFell, AnswerCounted}
use Rattle.call_tickets.specs.Asks.{HasAnswered}
use Rattle.call_tickets.specs.declared.tally.Tally.{Tally}
use Rattle.session_gate.specs.declared.calls.Dealing.{Dealing}
use Rattle.session_gate.specs.declared.calls.Dealing.TheVariants.{Answered, GivenUp, Down}
use Rattle.session_gate.specs.declared.stop.Stop.{Stop}
use Rattle.session_gate.specs.declared.stop.Stop.TheVariants as stops

-- the copies of this message, one for each mailbox in order, with the number and the digest of its octets
pub record AreMessageCopies (mail : Mail) (id : Id) (copies : List Acked) : Type 0 where
  pub seconds : ℕ
  pub confirmers : ℕ
  pub octets : List ℕ
  pub stored : IsStored mail id seconds octets
  pub are : copies ≡ copies_acked id seconds octets confirmers mail.mailboxes

-- the copies that a delivery with this answer acknowledged
abbrev pub DeliverAcks : Mail → model.Answer → List Acked → Type 0
DeliverAcks mail (Stored id) copies = AreMessageCopies mail id copies
DeliverAcks mail (Listed items) copies = copies ≡ []
DeliverAcks mail Wrong copies = copies ≡ []
DeliverAcks mail InUse copies = copies ≡ []
DeliverAcks mail NoProfile copies = copies ≡ []
DeliverAcks mail (Part octets) copies = copies ≡ []
DeliverAcks mail GoneAlready copies = copies ≡ []
DeliverAcks mail Dropped copies = copies ≡ []
DeliverAcks mail Failed copies = copies ≡ []

-- no other call acknowledges any
abbrev pub CallAcks : model.Call → model.Answer → List Acked → Type 0
CallAcks (Deliver mail) answer copies = DeliverAcks mail answer copies
CallAcks (Login user given) answer copies = copies ≡ []
CallAcks (Fetch user id) answer copies = copies ≡ []
CallAcks (Strike user ids) answer copies = copies ≡ []

-- nor does one that was not answered
abbrev pub ExchangeAcks : Option model.Call → Option model.Answer → List Acked → Type 0
ExchangeAcks None answer copies = copies ≡ []
ExchangeAcks (Some call) None copies = copies ≡ []
ExchangeAcks (Some call) (Some answer) copies = CallAcks call answer copies

-- the copies that it is to delete; none where its beginning was refused, and then it is not answered as done
abbrev pub ExchangeStrikes : Option model.Call → Option model.Answer → List (List ℕ × Id) → Type 0
ExchangeStrikes None answer ids = ids ≡ []
ExchangeStrikes (Some call) answer ids = (ids ≡ struck_by call) ⊎ ((ids ≡ []) × (answer ≢ Some Dropped))

-- the count of its answer rose
abbrev pub ExchangeCounted : Option model.Answer → Tally → Tally → Type 0
ExchangeCounted None old new = ⊤
ExchangeCounted (Some answer) old new = AnswerCounted answer old new

-- what one call acknowledged, as is told after it
pub record HasAcked (old : Option (List Acked)) (call : Option model.Call) (answer : Option model.Answer) (told : List Acked) : Type 0 where
  pub copies : List Acked
  pub are : ExchangeAcks call answer copies
  pub acked : TellsMore old copies (Some told)

-- what came of one call, so far
pub record Dealt (old : PassKnows) (call : Option model.Call) (answer : Option model.Answer) (new : PassKnows) : Type 0 where
  pub acked : IfSome new.acked (λ told. HasAcked old.acked call answer told)
  pub strikes : List (List ℕ × Id)
  pub asked : ExchangeStrikes call answer strikes
  pub struck : TellsMore old.struck strikes new.struck
  pub fell : NoneFell old.counts new.counts
  pub rose : ExchangeCounted answer old.counts new.counts

-- what came of all of them, in order
abbrev pub Deals : PassKnows → List Exchange → PassKnows → Type 0
Deals old [] new = IsQuiet old new
Deals old (one ∷ more) new = (mid : PassKnows) × Dealt old one.call one.answer mid × Deals mid more new

-- what became of a call that had begun
abbrev pub ComesOf : Begun → Result Dealing Stop → PassKnows → PassKnows → Type 0
ComesOf begun (Ok (Answered answer)) old new = HasAnswered begun (answer_seen answer) old new
ComesOf begun (Ok GivenUp) old new = IsQuiet old new × Rose old.counts.worn new.counts.worn
ComesOf begun (Ok Down) old new = IsQuiet old new × Rose old.counts.down new.counts.down
ComesOf begun (Err why) old new = IsQuiet old new

-- a call was given up, since a number was used up before
abbrev pub GivesUp : Result Dealing Stop → PassKnows → PassKnows → Type 0
GivesUp (Ok (Answered answer)) old new = ⊥
GivesUp (Ok GivenUp) old new = IsQuiet old new
GivesUp (Ok Down) old new = ⊥
GivesUp (Err why) old new = IsQuiet old new × (why ≡ stops.NoMemory)

-- what became of a call, from its beginning on
abbrev pub Settles : model.Call → Result Dealing Stop → PassKnows → PassKnows → Type 0
Settles call (Ok (Answered answer)) old new = Dealt old (Some call) (Some (answer_seen answer)) new × IsAnswerTo call (answer_seen answer)
Settles call (Ok GivenUp) old new = Dealt old (Some call) (Some Failed) new
Settles call (Ok Down) old new = Dealt old (Some call) None new × Rose old.counts.down new.counts.down
Settles call (Err why) old new = Dealt old (Some call) None new
