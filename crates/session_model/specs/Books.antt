-- The book of a cluster, against what the clients of a tape did and were told.
use Rattle.std.specs.Prelude.{◌≡◌, ◌⊎◌, ℕ, List, [], ◌∷◌, ◌++◌, flat_map, map, All, Some}
use Rattle.mail_model.specs.Identity.{Id}
use Rattle.mail_model.specs.Identity.Key.{Message}
use Rattle.mail_model.specs.Mail.{IsStored}
use Rattle.mail_model.specs.Plan.{Plan}
use Rattle.mail_model.specs.Tape.Protocol.{Pop}
use Rattle.mail_model.specs.Transcript.{Entry}
use Rattle.mail_model.specs.PopReplies.{one_line}
use Rattle.mail_model.specs.Maildrop.{bye_text}
use Rattle.mail_model.specs.Stored.{Ack, HaveOtherIds, mails_in}
use Rattle.mail_model.specs.Record.{Record, SaysHere, SaysGone, HoldsOctets}
use Rattle.mail_model.specs.Book.{BookEntry, AreCopies, acked_in, struck_in, dropped_in}
use Rattle.mail_model.specs.Deleted.{IsMarked, IsCopyOf, mask_of}
use Rattle.session_model.specs.Calls.{Call, Answer}
use Rattle.session_model.specs.Calls.Call.{Strike}
use Rattle.session_model.specs.Calls.Answer.{Dropped}
use Rattle.session_model.specs.Talk.{Exchange}
use Rattle.session_model.specs.Mailing.{filing_of, filings}
use Rattle.session_model.specs.Reading.{IsQuitUnit, all_seen}
use Rattle.session_model.specs.Sessions.{Session, session_at, exchanges_of}
use Rattle.session_model.specs.Facts.{ack_of}
use Rattle.session_model.specs.Copies.{OnEnough}
use Rattle.session_model.specs.Promises.{Deletes}
use Rattle.session_model.specs.Logs.{Asked, Answered}
use Rattle.session_model.specs.Run.{Stop}
use Rattle.session_model.specs.Run.Stop.{BehindLine, Denied, OutOfMemory}

-- the copies that a call asks to be deleted
abbrev pub struck_by : Call → List (List ℕ × Id)
struck_by (Strike user ids) = map (λ id. (user, id)) ids
struck_by call = []

-- and those that an answer says are
abbrev pub dropped_by : Call → Answer → List (List ℕ × Id)
dropped_by (Strike user ids) Dropped = map (λ id. (user, id)) ids
dropped_by call answer = []

-- the message that an answer acknowledges, but for its seconds, of which an answer says nothing
abbrev pub acks_by : Answered → List Ack
acks_by one = map (ack_of one.session) (filing_of (Some one.call) (Some one.answer))

-- a message without its seconds
abbrev pub untimed : Ack → Ack
untimed ack = record ack { seconds = 0 }

-- these are the messages that the answers acknowledge, in their order, each with its seconds
abbrev pub AreAcksOf : List Answered → List Ack → Type 0
AreAcksOf answered acks = map untimed acks ≡ flat_map acks_by answered

-- What a cluster owes of its book: its entries are those of the calls that it began and that it answered, in their order, and no others. These are the messages that
-- were acknowledged, and the nodes that confirmed each.
pub record IsBookOf (lines : List (List ℕ)) (begun : List Asked) (answered : List Answered) (acks : List Ack) (confirmers : List (List ℕ)) (book : List BookEntry) : Type 0 where
  pub struck : struck_in book ≡ flat_map (λ one. struck_by one.call) begun
  pub dropped : dropped_in book ≡ flat_map (λ one. dropped_by one.call one.answer) answered
  pub acked : AreCopies lines acks (map mask_of confirmers) (acked_in book)

-- The user's copy of a message is here with the octets that were told; or it is gone, and the book has it among those that were to be deleted.
abbrev pub IsAsBooked : List BookEntry → Ack → List ℕ → List Record → Type 0
IsAsBooked book ack user records =
    (SaysHere (Message user ack.id) records × ((octets : List ℕ) × IsStored ack.mail ack.id ack.seconds octets × HoldsOctets ack.id octets records))
    ⊎ (SaysGone (Message user ack.id) records × IsCopyOf user ack.id (struck_in book))

-- Of each of these messages the copy of each user is so on each node that confirmed it, and these are as many as the plan confirms or more.
abbrev pub AcknowledgedStand : Plan → List (List Record) → List BookEntry → List Ack → List (List ℕ) → Type 0
AcknowledgedStand plan disks book [] confirmers = confirmers ≡ []
AcknowledgedStand plan disks book (ack ∷ acks) [] = ⊥
AcknowledgedStand plan disks book (ack ∷ acks) (nodes ∷ confirmers) =
    All (λ user. OnEnough plan disks (IsAsBooked book ack user) nodes) ack.mail.mailboxes × AcknowledgedStand plan disks book acks confirmers

-- what was asked was begun; where memory ran out, the last call may not have been
abbrev pub AreBegun : Stop → List Asked → List Asked → Type 0
AreBegun OutOfMemory asked begun = (begun ≡ asked) ⊎ ((one : Asked) × (asked ≡ begun ++ one ∷ []))
AreBegun stop asked begun = begun ≡ asked

-- nothing, or one
abbrev pub AtMostOne : List Ack → Type 0
AtMostOne acks = (acks ≡ []) ⊎ ((ack : Ack) × (acks ≡ ack ∷ []))

-- after a line all was written
abbrev pub MayBeUnwritten : Stop → List Ack → Type 0
MayBeUnwritten BehindLine unwritten = unwritten ≡ []
MayBeUnwritten Denied unwritten = unwritten ≡ []
MayBeUnwritten stop unwritten = AtMostOne unwritten

-- The copies of the book are those of the messages that were answered `250 stored`, in the order of these lines, and after them those of one message at most whose
-- line was not written; each entry has the nodes that confirmed the message.
pub record AcknowledgedAsTold (stop : Stop) (lines : List (List ℕ)) (sessions : List Session) (acks unwritten : List Ack) (confirmers : List (List ℕ)) (book : List BookEntry) : Type 0 where
  pub may : MayBeUnwritten stop unwritten
  pub copies : AreCopies lines (acks ++ unwritten) (map mask_of confirmers) (acked_in book)
  pub other_ids : HaveOtherIds (acks ++ unwritten)
  -- the message is one that its session asked to be stored, and of which it was answered that it is
  pub of_sessions : (k : ℕ) (session : Session) → session_at sessions k ≡ Some session → mails_in k (acks ++ unwritten) ≡ map (λ filing. filing.mail) (filings (exchanges_of session))

-- the call is one of these
abbrev pub Among : Asked → List Asked → Type 0
Among one [] = ⊥
Among one (other ∷ asked) = (other ≡ one) ⊎ Among one asked

-- the answer is one of these
abbrev pub AmongAnswers : Answered → List Answered → Type 0
AmongAnswers one [] = ⊥
AmongAnswers one (other ∷ answered) = (other ≡ one) ⊎ AmongAnswers one answered

-- The copies that the book says were to be deleted are those of the calls for deletions, in the order of these calls. Each of these calls is the QUIT of a client that
-- had marked these messages, and each QUIT after a mark that was reached is one of them; where memory ran out at the last, it may have none. The copies that it says
-- are deleted are those of the calls that were answered so, among them each whose client was told `+OK bye`.
pub record StruckAsMarked (stop : Stop) (entries : List Entry) (sessions : List Session) (asked begun : List Asked) (answered : List Answered) (book : List BookEntry) : Type 0 where
  pub were : AreBegun stop asked begun
  pub struck : struck_in book ≡ flat_map (λ one. struck_by one.call) begun
  pub marked : (k : ℕ) (user : List ℕ) (ids : List Id) → Among (record { session = k; call = Strike user ids }) asked
      → (session : Session) × (quit : Exchange) × (session_at sessions k ≡ Some session) × Deletes entries k session user ids quit
  pub all : (k n : ℕ) (session : Session) (before behind : List Exchange) (quit : Exchange) → session_at sessions k ≡ Some session → session.protocol ≡ Pop
      → exchanges_of session ≡ before ++ quit ∷ behind → IsQuitUnit quit.unit → IsMarked n (all_seen before)
      → (user : List ℕ) × (ids : List Id) × Among (record { session = k; call = Strike user ids }) asked
  pub dropped : dropped_in book ≡ flat_map (λ one. dropped_by one.call one.answer) answered
  pub told : (k n : ℕ) (session : Session) (before : List Exchange) (quit : Exchange) → session_at sessions k ≡ Some session → session.protocol ≡ Pop
      → session.whole ≡ before ++ quit ∷ [] → IsQuitUnit quit.unit → quit.reply ≡ one_line bye_text → IsMarked n (all_seen before)
      → (user : List ℕ) × (ids : List Id) × AmongAnswers (record { session = k; call = Strike user ids; answer = Dropped }) answered
