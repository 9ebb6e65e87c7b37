-- The promises to clients, all of the same sessions of a tape, of the same acknowledged messages, and of the same records of the nodes.
use Rattle.std.specs.Prelude.{◌≡◌, ℕ, Bool, true, List, [], ◌∷◌, ◌++◌, flat_map, ⊤, Option}
use Rattle.mail_model.specs.Identity.{Id}
use Rattle.mail_model.specs.Plan.{Plan}
use Rattle.mail_model.specs.Transcript.{Entry}
use Rattle.mail_model.specs.Transcript.Entry.{Said, Event, Refused}
use Rattle.mail_model.specs.Record.{Record}
use Rattle.mail_model.specs.Stored.{Ack}
use Rattle.mail_model.specs.Book.{BookEntry}
use Rattle.session_model.specs.Copies.{AreDisks, DroppedAreGone, OneContent}
use Rattle.session_model.specs.Sessions.{Session, AreAnswered}
use Rattle.session_model.specs.SessionParts.{AreShown, AreMailTalks, AreReaderTalks}
use Rattle.session_model.specs.Acts.{Act}
use Rattle.session_model.specs.Logs.{Asked, AreLogged, asked_by, answered_by}
use Rattle.session_model.specs.Run.{Stop, Made, IsDriven, IsCutShort}
use Rattle.session_model.specs.Promises.{StoredStands, DeletedByQuit, ShownAsFiled, ShownOnce, ShownAreOwn}
use Rattle.session_model.specs.Books.{AcknowledgedAsTold, AcknowledgedStand, StruckAsMarked, AreBegun}
use Rattle.session_model.specs.Owes.{Owes}

-- What is promised to clients, of the sessions as the tape and the transcript show them, of the messages that were answered `250 stored` and of the nodes that
-- confirmed each of them, of the records of the nodes, and of what is filed of each message. No book, no log and no step is spoken of.
pub record KeepsToClients (plan : Plan) (tells : Bool) (lines : List (List ℕ)) (entries : List Entry) (disks : List (List Record)) (filed : Id → Option (List ℕ))
    (sessions : List Session) (acks : List Ack) (confirmers : List (List ℕ)) : Type 0 where
  -- the sessions are those that the tape fed and the transcript shows; of these some take mail, and the others read it
  pub shown : AreShown lines entries sessions
  pub take_mail : AreMailTalks plan sessions
  pub read_mail : AreReaderTalks plan sessions
  pub stored_stands : StoredStands plan lines entries disks sessions acks confirmers
  pub deleted_by_quit : DeletedByQuit plan entries disks sessions
  pub shown_as_filed : tells ≡ true → ShownAsFiled filed sessions
  pub shown_once : ShownOnce sessions
  pub shown_are_own : ShownAreOwn disks sessions
  pub one_content : OneContent filed disks

-- All promises, over the run lines that were handled, the entries of the transcript, what the stores given back hold, the records of the nodes, and the book, the acts
-- and the calls of the run.
pub record KeepsPromises (plan : Plan) (tells : Bool) (stop : Stop) (lines : List (List ℕ)) (entries : List Entry) (stores : List (Option (List ℕ))) (disks : List (List Record))
    (filed : Id → Option (List ℕ)) (book : List BookEntry) (acts : List Act) (begun : List Asked) : Type 0 where
  -- the records of the nodes are what their stores hold, where these tell it
  pub holds : AreDisks 1 stores disks
  pub sessions : List Session
  -- the messages that were answered `250 stored`, one at most whose line was not written, and the nodes that confirmed each of these
  pub acks : List Ack
  pub unwritten : List Ack
  pub confirmers : List (List ℕ)
  pub clients : KeepsToClients plan tells lines entries disks filed sessions acks confirmers
  pub answered : (IsCutShort stop → ⊥) → AreAnswered sessions
  -- what the sessions asked and were answered is what the acts did
  pub logged : AreLogged (flat_map asked_by acts) (flat_map answered_by acts) sessions
  pub acknowledged_as_told : AcknowledgedAsTold stop lines sessions acks unwritten confirmers book
  pub acknowledged_stand : AcknowledgedStand plan disks book (acks ++ unwritten) confirmers
  pub struck_as_marked : StruckAsMarked stop entries sessions (flat_map asked_by acts) begun (flat_map answered_by acts) book
  pub dropped_are_gone : DroppedAreGone plan disks book

-- at most one line that says why the program ended
abbrev pub IsEnding : List Entry → Type 0
IsEnding [] = ⊤
IsEnding (Refused text ∷ []) = ⊤
IsEnding (Refused text ∷ entry ∷ entries) = ⊥
IsEnding (Said session text ∷ entries) = ⊥
IsEnding (Event text ∷ entries) = ⊥

-- However a tape is driven, and whatever line says why the program ended: where the cluster gives what it owes of what it was asked and answered, the promises are kept.
abbrev pub OwedIsKept : Type 0
OwedIsKept = (plan : Plan) (tells : Bool) (stop : Stop) (handled left : List (List ℕ)) (acts others : List (List Act)) (made : List Made) (entries ending : List Entry) (last : List Session)
    (stores : List (Option (List ℕ))) (disks : List (List Record)) (filed : Id → Option (List ℕ)) (begun : List Asked) (book : List BookEntry)
    → IsDriven plan stop handled left acts others made entries last → IsEnding ending
    → AreBegun stop (flat_map asked_by (flat_map (λ a. a) (acts ++ others))) begun
    → Owes plan tells (handled ++ left) stores disks filed begun (flat_map answered_by (flat_map (λ a. a) (acts ++ others))) book
    → KeepsPromises plan tells stop (handled ++ left) (entries ++ ending) stores disks filed book (flat_map (λ a. a) (acts ++ others)) begun
