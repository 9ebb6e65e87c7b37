-- The sessions of a tape, said in three parts, so that whoever reads of mail that is taken in need not know how mail is read.
use Rattle.std.specs.Prelude.{◌≡◌, ℕ, List, drop, map, Some}
use Rattle.mail_model.specs.Plan.{Plan}
use Rattle.mail_model.specs.Tape.Protocol.{Smtp, Pop}
use Rattle.mail_model.specs.Transcript.{Entry}
use Rattle.mail_model.specs.Told.{sent}
use Rattle.mail_model.specs.Stored.{opened}
use Rattle.mail_model.specs.Shown.{lines_to}
use Rattle.session_model.specs.Talk.{IsTalk}
use Rattle.session_model.specs.MailTalk.{IsMailTalk}
use Rattle.session_model.specs.Sessions.{Session, Gets, session_at, exchanges_of}

-- Session k was fed by the run lines that were handled, and its client got what the transcript shows.
pub record IsShown (lines : List (List ℕ)) (entries : List Entry) (k : ℕ) (session : Session) : Type 0 where
  pub fed : session.octets ≡ sent k lines
  pub gets : Gets session (drop 1 (lines_to k entries))

-- so it is of each session, in order of `open`
pub record AreShown (lines : List (List ℕ)) (entries : List Entry) (sessions : List Session) : Type 0 where
  pub kinds : opened lines ≡ map (λ session. (session.protocol, session.node)) sessions
  pub each : (k : ℕ) (session : Session) → session_at sessions k ≡ Some session → IsShown lines entries k session

-- each session that takes mail does what the definition of such a session says
abbrev pub AreMailTalks : Plan → List Session → Type 0
AreMailTalks plan sessions = (k : ℕ) (session : Session) → session_at sessions k ≡ Some session → session.protocol ≡ Smtp
    → IsMailTalk plan session.node session.octets (exchanges_of session) session.standing session.rest

-- and so does each that reads mail
abbrev pub AreReaderTalks : Plan → List Session → Type 0
AreReaderTalks plan sessions = (k : ℕ) (session : Session) → session_at sessions k ≡ Some session → session.protocol ≡ Pop
    → IsTalk plan session.node Pop session.octets (exchanges_of session) session.standing session.rest
