-- The promises to clients, over the sessions of a tape, the entries of its transcript and the records of the nodes.
use Rattle.std.specs.Prelude.{◌≡◌, ℕ, ◌<◌, ◌≤◌, ◌^◌, Bool, false, List, [], ◌∷◌, ◌++◌, drop, flat_map, length, map, ⊤, Option, Some}
use Rattle.std.specs.Fmt.{decimal}
use Rattle.mail_model.specs.Identity.{Id, id_text}
use Rattle.mail_model.specs.Plan.{Plan}
use Rattle.mail_model.specs.Tape.Protocol.{Smtp, Pop}
use Rattle.mail_model.specs.Transcript.{Entry}
use Rattle.mail_model.specs.Session.{silent}
use Rattle.mail_model.specs.Record.{Record}
use Rattle.mail_model.specs.PopReplies.{one_line, top_of}
use Rattle.mail_model.specs.Maildrop.{bye_text}
use Rattle.mail_model.specs.Told.{Answers, told_from}
use Rattle.mail_model.specs.Stored.{Ack, HaveOtherIds, mails_in, opened, stored_sessions}
use Rattle.mail_model.specs.Shown.{lines_to, ShowsId, ShowsSize, ShowsOctets, ShowsTop}
use Rattle.mail_model.specs.Deleted.{Enters, IsMarked, IsCopyOf}
use Rattle.session_model.specs.Calls.{Call}
use Rattle.session_model.specs.Calls.Call.{Strike}
use Rattle.session_model.specs.Talk.{Exchange, replies}
use Rattle.session_model.specs.Copies.{EachStands, AreGoneOn, HasRecordOf}
use Rattle.session_model.specs.Mailing.{pairs}
use Rattle.session_model.specs.Reading.{QuitsMarked, IsQuitUnit, all_seen, seen_exchange}
use Rattle.session_model.specs.Sessions.{Session, AreSessions, session_at, exchanges_of}
use Rattle.session_model.specs.Facts.{IsGoneIn, IsIn, DroppedAreTrue, ListingsAreTrue, OwnAreTrue, PartsAreTrue}

-- What the client of session k was told: the units that it sent, each with its reply, and the messages that these tell, which are those of its lines `250 stored`.
pub record IsTold (plan : Plan) (acks : List Ack) (k : ℕ) (session : Session) : Type 0 where
  pub in_text : Bool
  pub rest : List ℕ
  pub units : Answers false session.octets (pairs session.whole) in_text rest
  pub messages : mails_in k acks ≡ told_from plan silent (pairs session.whole)

-- Each line `250 stored` of a session that takes mail, in the order in which they were written, answers the message that it should, the first of a session the
-- first, and so on; and this stands under an id of its own, on the nodes that confirmed it.
pub record StoredStands (plan : Plan) (lines : List (List ℕ)) (entries : List Entry) (disks : List (List Record)) (sessions : List Session) (acks : List Ack) (confirmers : List (List ℕ)) : Type 0 where
  pub lines_of : map (λ ack. ack.session) acks ≡ stored_sessions (opened lines) entries
  pub told : (k : ℕ) (session : Session) → session_at sessions k ≡ Some session → session.protocol ≡ Smtp → IsTold plan acks k session
  pub other_ids : HaveOtherIds acks
  pub stands : EachStands plan lines disks acks confirmers

-- The client of session k said QUIT, as this user, after exchanges whose replies it got whole, in which it marked the messages of these ids: those whose deletion the
-- session then asks, and no others.
pub record Deletes (entries : List Entry) (k : ℕ) (session : Session) (user : List ℕ) (ids : List Id) (quit : Exchange) : Type 0 where
  pub before : List Exchange
  pub tail : List (List ℕ)
  pub are : exchanges_of session ≡ before ++ quit ∷ []
  pub got : drop 1 (lines_to k entries) ≡ replies before ++ tail
  pub asks : quit.call ≡ Some (Strike user ids)
  pub marked : QuitsMarked before quit user ids

-- Only a QUIT deletes, and one that was answered `+OK bye` has deleted.
pub record DeletedByQuit (plan : Plan) (entries : List Entry) (disks : List (List Record)) (sessions : List Session) : Type 0 where
  -- a copy that is gone was marked by its owner, whose QUIT was reached
  pub only : (n : ℕ) (user : List ℕ) (id : Id) → IsGoneIn disks n user id
      → (k : ℕ) × (session : Session) × (ids : List Id) × (quit : Exchange) × (session_at sessions k ≡ Some session) × (session.protocol ≡ Pop)
      × Deletes entries k session user ids quit × IsIn id ids
  -- where a client was told `+OK bye`, all that it marked is gone
  pub bye : (k : ℕ) (session : Session) (before : List Exchange) (quit : Exchange) (n : ℕ) → session_at sessions k ≡ Some session → session.protocol ≡ Pop
      → session.whole ≡ before ++ quit ∷ [] → IsQuitUnit quit.unit → quit.reply ≡ one_line bye_text → IsMarked n (all_seen before)
      → (user : List ℕ) × (ids : List Id) × Deletes entries k session user ids quit
      × ((id : Id) → IsIn id ids → (nodes : List ℕ) × AreGoneOn plan disks user id nodes)

-- the copies of messages whose deletion an exchange asks, and a session
abbrev pub strikes : Option Call → List (List ℕ × Id)
strikes (Some (Strike user ids)) = map (λ id. (user, id)) ids
strikes call = []

abbrev pub struck_of : Session → List (List ℕ × Id)
struck_of session = flat_map (λ one. strikes one.call) (exchanges_of session)

-- no copy is one of these twice
abbrev pub AreOnce : List (List ℕ × Id) → Type 0
AreOnce [] = ⊤
AreOnce (copy ∷ copies) = (IsCopyOf copy.0 copy.1 copies → ⊥) × AreOnce copies

-- Of all copies no more are gone than sessions asked to be deleted, each those that it marked: one mark deletes one copy.
abbrev pub GoneAtMostMarked : Type 0
GoneAtMostMarked = (plan : Plan) (entries : List Entry) (disks : List (List Record)) (sessions : List Session) (copies : List (List ℕ × Id)) → DeletedByQuit plan entries disks sessions
    → AreOnce copies → ((user : List ℕ) (id : Id) → IsCopyOf user id copies → (n : ℕ) × IsGoneIn disks n user id) → length copies ≤ length (flat_map struck_of sessions)

-- the octets that are filed under the id of this text
abbrev pub AreFiled : (Id → Option (List ℕ)) → List ℕ → List ℕ → Type 0
AreFiled filed text octets = (id : Id) × (id_text id ≡ text) × (filed id ≡ Some octets)

-- Where UIDL shows an id for a number, each size that LIST shows for it is the number of the octets filed under the id, what RETR shows are these octets, and what TOP
-- shows is their header and as many lines behind it as were asked for.
abbrev pub ShownAsFiled : (Id → Option (List ℕ)) → List Session → Type 0
ShownAsFiled filed sessions = (k : ℕ) (session : Session) → session_at sessions k ≡ Some session → session.protocol ≡ Pop
    → (n : ℕ) (text : List ℕ) (before behind : List Exchange) (one : Exchange) → n < 10 ^ 63 → session.whole ≡ before ++ one ∷ behind → ShowsId n text (seen_exchange one)
    → (before_it behind_it : List Exchange) (other : Exchange) → session.whole ≡ before_it ++ other ∷ behind_it
    → ((size : List ℕ) → ShowsSize n size (seen_exchange other) → (octets : List ℕ) × AreFiled filed text octets × (size ≡ decimal (length octets)))
    × ((octets : List ℕ) → ShowsOctets n octets (seen_exchange other) → AreFiled filed text octets)
    × ((count : ℕ) (octets : List ℕ) → ShowsTop n count octets (seen_exchange other) → (whole : List ℕ) × AreFiled filed text whole × (octets ≡ top_of count whole))

-- UIDL shows no id for two numbers of one session: no message is listed twice.
abbrev pub ShownOnce : List Session → Type 0
ShownOnce sessions = (k : ℕ) (session : Session) → session_at sessions k ≡ Some session → session.protocol ≡ Pop
    → (n m : ℕ) (text : List ℕ) (before behind before_it behind_it : List Exchange) (one other : Exchange) → n < 10 ^ 63 → m < 10 ^ 63
    → session.whole ≡ before ++ one ∷ behind → ShowsId n text (seen_exchange one) → session.whole ≡ before_it ++ other ∷ behind_it → ShowsId m text (seen_exchange other) → n ≡ m

-- Each message whose id UIDL shows is one of which some node has a record as a copy of the user as whom the session entered.
abbrev pub ShownAreOwn : List (List Record) → List Session → Type 0
ShownAreOwn disks sessions = (k : ℕ) (session : Session) → session_at sessions k ≡ Some session → session.protocol ≡ Pop
    → (n : ℕ) (text : List ℕ) (before behind : List Exchange) (one : Exchange) → n < 10 ^ 63 → session.whole ≡ before ++ one ∷ behind → ShowsId n text (seen_exchange one)
    → (user : List ℕ) × (id : Id) × Enters (all_seen session.whole) user × (id_text id ≡ text) × HasRecordOf disks user id

-- The promises follow for every tape and every status from the sessions and from facts about answers.
abbrev pub TrueAnswersDelete : Type 0
TrueAnswersDelete = (plan : Plan) (lines : List (List ℕ)) (entries : List Entry) (disks : List (List Record)) (sessions : List Session)
    → AreSessions plan lines entries sessions → DroppedAreTrue plan disks sessions
    → DeletedByQuit plan entries disks sessions

abbrev pub TrueAnswersShow : Type 0
TrueAnswersShow = (plan : Plan) (lines : List (List ℕ)) (entries : List Entry) (filed : Id → Option (List ℕ)) (sessions : List Session)
    → AreSessions plan lines entries sessions → PartsAreTrue filed sessions → ShownAsFiled filed sessions

abbrev pub TrueListingsShow : Type 0
TrueListingsShow = (plan : Plan) (lines : List (List ℕ)) (entries : List Entry) (sessions : List Session)
    → AreSessions plan lines entries sessions → ListingsAreTrue sessions → ShownOnce sessions

abbrev pub OwnListingsShow : Type 0
OwnListingsShow = (plan : Plan) (lines : List (List ℕ)) (entries : List Entry) (disks : List (List Record)) (sessions : List Session)
    → AreSessions plan lines entries sessions → ListingsAreTrue sessions → OwnAreTrue disks sessions → ShownAreOwn disks sessions
